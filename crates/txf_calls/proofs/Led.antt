-- Where a path leads, by what is told of it.
use Rattle.std.proofs.Common.{◌≡◌, subst}
use Rattle.ktm_base.specs.Names.{folded}
use Rattle.ktm_world.specs.declared.recorded.Node.{Node}
use Rattle.ktm_world.specs.FileCalls.{Whereabouts as There, no_path, no_way, free, at_root, at_node}
use Rattle.txf_calls.specs.Leads.{Leads, seen_of}
use Rattle.txf_calls.specs.declared.along.Whereabouts.{Whereabouts}
use Rattle.txf_calls.specs.declared.along.Whereabouts.TheVariants.{Free, Root, Node as At}

module _ (P : There → Type 0) where
  at-free : (d : _) (name : _) (w : There) → Leads (Free d name) w → P (free d name.now) → P w
  at-free d name no_path led is = absurd led
  at-free d name no_way led is = absurd led
  at-free d name (free e n) led is = subst (λ e. P (free e n)) led.0 (subst (λ n. P (free d n)) led.1 is)
  at-free d name at_root led is = absurd led
  at-free d name (at_node node) led is = absurd led

  at-root : (w : There) → Leads Root w → P at_root → P w
  at-root no_path led is = absurd led
  at-root no_way led is = absurd led
  at-root (free d n) led is = absurd led
  at-root at_root led is = is
  at-root (at_node node) led is = absurd led

  at-there : (node : _) (name : _) (w : There) → Leads (At node name) w → ((other : Node) → node ≡ seen_of other → folded other.name ≡ folded name.now → P (at_node other)) → P w
  at-there node name no_path led is = absurd led
  at-there node name no_way led is = absurd led
  at-there node name (free d n) led is = absurd led
  at-there node name at_root led is = absurd led
  at-there node name (at_node other) led is = is other led.0 led.1

  -- whichever it is
  module _ (there : Whereabouts) (w : There) (led : Leads there w) where
    pub by-free : (d : _) (name : _) → there ≡ Free d name → P (free d name.now) → P w
    by-free d name same is = at-free d name w (subst (λ t. Leads t w) same led) is

    pub by-root : there ≡ Root → P at_root → P w
    by-root same is = at-root w (subst (λ t. Leads t w) same led) is

    pub by-node : (node : _) (name : _) → there ≡ At node name → ((other : Node) → node ≡ seen_of other → folded other.name ≡ folded name.now → P (at_node other)) → P w
    by-node node name same is = at-there node name w (subst (λ t. Leads t w) same led) is
