-- Pages that are written one after another, and what a loss of power leaves meanwhile.
use Rattle.std.proofs.Common.{◌≡◌, ◌≢◌, ◌⊎◌, ℕ, zero, suc, ◌+◌, ◌-◌, ◌*◌, ◌%◌, ◌<◌, ◌≤◌, ◌||◌, min, Bool, true, false, Option, None, Some, List, [], ◌∷◌, ◌++◌, length, take, drop, refl, sym, ◌∙◌, ap, subst, arith, inl, inr, append_assoc, length-append, length-take, length-drop}
use Rattle.std.specs.Prelude.{Contains, IfSome, IsSomeAnd, OnErr, OnOk, Result, Ok, Err, is_err, is_ok, if◌then◌else◌}
use Rattle.ktm_base.specs.declared.fault.Down.{Down}
use Rattle.std.proofs.Math.Seq.{take-add}
use Rattle.std.proofs.lemmas.Bool.{cases_eq, cases_lt}
use Rattle.std.proofs.lemmas.List.{drop_at, take_at, take-append-drop}
use Rattle.std.proofs.lemmas.List.Elements.{All-append, All-cons, All-nil, All-weaker, Contains-append_cases, Contains-append_left, Contains-append_right}
use Rattle.ktm_base.proofs.offered.Images.{calls_law}
use Rattle.ktm_base.proofs.offered.ToldSteps.{IfSome-step, IsSomeAnd-map, IsSomeAnd-step}
use Rattle.ktm_base.specs.Bytes.{written}
use Rattle.ktm_base.specs.Disk.{DeviceCall, DeviceCalls, DiskState, DiskStatus, Synced}
use Rattle.ktm_base.specs.Told.{Goes}
use Rattle.ktm_journal.specs.Image.{IsHeaded, JournalAt, JournalState, page_count, pages_at, row_of}
use Rattle.ktm_journal.specs.Pages.{JournalBut, PageTorn, PageWritten, PagesLaw, SamePagesBut}
use Rattle.ktm_journal.proofs.offered.Rows.{others_kept}
use Rattle.ktm_page.specs.Row.{page_of}
use Rattle.ktm_store.specs.Pool.{Shows, kept_at}
use Rattle.ktm_store.specs.Store.{PoolState}
use Rattle.ktm_world.specs.Groups.{Group}
use Rattle.ktm_core.specs.Done.{page_calls}
use Rattle.ktm_core.specs.Pages.{ArePagesTorn, ArePagesWritten, LeavesBut, WritingLeaves, WrotePages}
use Rattle.ktm_core.proofs.Groups.{goes-then, more_calls}

-- ---- rows

same-none : (row : List ℕ) → SamePagesBut [] row row
same-none row = record { same_length = refl; others = λ page out. refl }

-- the pages of two rows, and of a third, are the same but for some
pub same-then : (ps qs all a b c : List ℕ) → ((page : ℕ) → Contains ps page → Contains all page) → ((page : ℕ) → Contains qs page → Contains all page) → SamePagesBut ps a b → SamePagesBut qs b c → SamePagesBut all a c
same-then ps qs all a b c first second one two = record {
  same_length = two.same_length ∙ one.same_length;
  others = λ page out. two.others page (λ there. out (second page there)) ∙ one.others page (λ there. out (first page there));
}

-- a page that is written has the bytes
page-written : (page : ℕ) (old bytes : List ℕ) → length bytes ≡ 4096 → page * 4096 + 4096 ≤ length old → page_of (written old (page * 4096) bytes) page ≡ bytes
page-written page old bytes full fits =
    ap (λ (l : List ℕ). take (page * 4096 + 4096 - page * 4096) (drop (page * 4096) l)) (append_assoc (take (page * 4096) old) bytes (drop (page * 4096 + length bytes) old))
    ∙ ap (λ (l : List ℕ). take (page * 4096 + 4096 - page * 4096) l) (drop_at (take (page * 4096) old) (bytes ++ drop (page * 4096 + length bytes) old) (page * 4096) (omega (arith, fits, length-take (page * 4096) old)))
    ∙ take_at bytes (drop (page * 4096 + length bytes) old) (page * 4096 + 4096 - page * 4096) (omega (arith, full))

-- a page that is in memory is that of each row that the store shows
pub page-shown : (pool : PoolState) (row : List ℕ) (page : ℕ) (bytes : List ℕ) → Shows pool row → Some bytes ≡ kept_at pool.seen page → bytes ≡ page_of row page
page-shown pool row page bytes shows is = sym (shows.bytes page bytes (sym is))

-- ---- disks

module _ (units : ℕ) (row : List ℕ) where
  wrote-none : (s : DiskState) → WrotePages units [] row s s
  wrote-none s = record { written = All-nil (λ page. page_of (row_of units s.seen) page ≡ page_of row page); kept = λ page is. is; others = same-none (row_of units s.seen) }

  module _ (page : ℕ) (mid new : DiskState) (fits : page * 4096 + 4096 ≤ length (row_of units mid.seen)) (full : length (page_of row page) ≡ 4096) (wrote : PageWritten units page (page_of row page) mid new) where
    others-stay : SamePagesBut (page ∷ []) (row_of units mid.seen) (row_of units new.seen)
    others-stay = others_kept units (page ∷ []) mid.seen new.seen wrote.elsewhere.same_length wrote.elsewhere.others

    here : page_of (row_of units new.seen) page ≡ page_of row page
    here = ap (λ (l : List ℕ). page_of l page) wrote.row ∙ page-written page (row_of units mid.seen) (page_of row page) full fits

    not-here : (other : ℕ) → other ≢ page → Contains (page ∷ []) other → ⊥
    not-here other apart (zero, low, is) = apart (sym is)
    not-here other apart (suc k, low, is) = omega (arith, low)

    keeps : (other : ℕ) → page_of (row_of units mid.seen) other ≡ page_of row other → page_of (row_of units new.seen) other ≡ page_of row other
    keeps other was = elim (cases_eq other page) [
      | inl same ↦ ap (page_of (row_of units new.seen)) same ∙ here ∙ sym (ap (page_of row) same)
      | inr apart ↦ others-stay.others other (not-here other apart) ∙ was
    ]

    wrote-next : (pages : List ℕ) (old : DiskState) → WrotePages units pages row old mid → WrotePages units (pages ++ page ∷ []) row old new
    wrote-next pages old before = record {
      written = All-append (λ p. page_of (row_of units new.seen) p ≡ page_of row p) pages (page ∷ [])
          (All-weaker (λ p. page_of (row_of units mid.seen) p ≡ page_of row p) (λ p. page_of (row_of units new.seen) p ≡ page_of row p) keeps pages before.written)
          (All-cons (λ p. page_of (row_of units new.seen) p ≡ page_of row p) page [] here (All-nil (λ p. page_of (row_of units new.seen) p ≡ page_of row p)));
      kept = λ p is. keeps p (before.kept p is);
      others = same-then pages (page ∷ []) (pages ++ page ∷ []) (row_of units old.seen) (row_of units mid.seen) (row_of units new.seen) (Contains-append_left pages (page ∷ [])) (Contains-append_right pages (page ∷ [])) before.others others-stay;
    }

  wrote-both : (ps qs : List ℕ) (old mid new : DiskState) → WrotePages units ps row old mid → WrotePages units qs row mid new → WrotePages units (ps ++ qs) row old new
  wrote-both ps qs old mid new one two = record {
    written = All-append (λ p. page_of (row_of units new.seen) p ≡ page_of row p) ps qs
        (All-weaker (λ p. page_of (row_of units mid.seen) p ≡ page_of row p) (λ p. page_of (row_of units new.seen) p ≡ page_of row p) two.kept ps one.written) two.written;
    kept = λ p is. two.kept p (one.kept p is);
    others = same-then ps qs (ps ++ qs) (row_of units old.seen) (row_of units mid.seen) (row_of units new.seen) (Contains-append_left ps qs) (Contains-append_right ps qs) one.others two.others;
  }

  wrote-synced : (pages : List ℕ) (old mid new : DiskState) → WrotePages units pages row old mid → Synced mid new → WrotePages units pages row old new
  wrote-synced pages old mid new wrote synced = subst (λ (seen : List ℕ). WrotePages units pages row old (record new { seen = seen })) (sym synced.seen) (record { written = wrote.written; kept = wrote.kept; others = wrote.others })

-- ---- what is told while pages are written, before a sync

pub record AreBeingWritten (j : JournalState) (pages row : List ℕ) (before now : Option DiskState) (old new : DiskStatus) : Type 0 where
  pub done : List ℕ
  pub among : (page : ℕ) → Contains done page → Contains pages page
  pub but : (snapshot : List ℕ) (log : List Group) → IsSomeAnd before (JournalAt j snapshot log) → IsSomeAnd now (JournalBut done j snapshot log)
  pub written : Goes (WrotePages j.units pages row) before now
  pub headed : IfSome now (λ s. IsHeaded j.units j.image j.selector s.seen)
  pub up : new.is_down ≡ false
  pub pending : new.pending ≤ length pages
  pub calls : DeviceCalls (length pages) old new false

or-false : (b : Bool) → b ≡ (b || false)
or-false true = refl
or-false false = refl

pub no-calls : (s : DiskStatus) → DeviceCalls 0 s s false
no-calls s = record { later = omega arith; counted = omega arith; few = omega arith; cause = λ refused. absurd (cc); down = or-false s.is_down; plan = refl; places = refl }

told-none : (units : ℕ) (row : List ℕ) (told : Option DiskState) → Goes (WrotePages units [] row) told told
told-none units row None = tt
told-none units row (Some s) = wrote-none units row s

module _ (law : PagesLaw) (j : JournalState) (row : List ℕ) where
  pub writing-none : (told : Option DiskState) (s : DiskStatus) → IfSome told (λ d. IsHeaded j.units j.image j.selector d.seen) → s.is_down ≡ false → s.pending ≡ 0 → AreBeingWritten j [] row told told s s
  writing-none told s headed up pending = record {
    done = [];
    among = λ page there. there;
    but = λ snapshot log at. IsSomeAnd-map told (JournalAt j snapshot log) (JournalBut [] j snapshot log) at (λ d is. law.none j snapshot log d is);
    written = told-none j.units row told;
    headed = headed;
    up = up;
    pending = omega (arith, pending);
    calls = no-calls s;
  }

  module _ (pages : List ℕ) (page : ℕ) (before mid new : Option DiskState) (s t u : DiskStatus) (within : page < page_count j.units) (full : length (page_of row page) ≡ 4096) (so : AreBeingWritten j pages row before mid s t) where
    row-long : (d : DiskState) → IsHeaded j.units j.image j.selector d.seen → page * 4096 + 4096 ≤ length (row_of j.units d.seen)
    row-long d headed =
        let long = headed.long in
        omega (arith, long, within, length-take (4096 * page_count j.units) (drop (pages_at j.units) d.seen), length-drop (pages_at j.units) d.seen)

    pages-next : Goes (PageWritten j.units page (page_of row page)) mid new → Goes (WrotePages j.units (pages ++ page ∷ []) row) before new
    pages-next wrote = go before mid new so.written so.headed wrote
      where
        go : (before mid new : Option DiskState) → Goes (WrotePages j.units pages row) before mid → IfSome mid (λ d. IsHeaded j.units j.image j.selector d.seen) → Goes (PageWritten j.units page (page_of row page)) mid new
            → Goes (WrotePages j.units (pages ++ page ∷ []) row) before new
        go None None None one headed two = tt
        go None None (Some c) one headed two = two
        go None (Some b) new one headed two = absurd one
        go (Some a) None new one headed two = absurd one
        go (Some a) (Some b) None one headed two = absurd two
        go (Some a) (Some b) (Some c) one headed two = wrote-next j.units row page b c (row-long b headed) full two pages a one

    done-among : (other : ℕ) → Contains (page ∷ so.done) other → Contains (pages ++ page ∷ []) other
    done-among other there = elim (Contains-append_cases (page ∷ []) so.done other there) [
      | inl first ↦ Contains-append_right pages (page ∷ []) other first
      | inr later ↦ Contains-append_left pages (page ∷ []) other (so.among other later)
    ]

    pub writing-next : Goes (PageWritten j.units page (page_of row page)) mid new
        → ((ps snapshot : List ℕ) (log : List Group) → IsSomeAnd mid (JournalBut ps j snapshot log) → IsSomeAnd new (JournalBut (page ∷ ps) j snapshot log))
        → IfSome new (λ d. IsHeaded j.units j.image j.selector d.seen) → u.pending ≤ t.pending + 1 → u.is_down ≡ false → DeviceCalls 1 t u false → AreBeingWritten j (pages ++ page ∷ []) row before new s u
    writing-next wrote kept headed pending up calls = record {
      done = page ∷ so.done;
      among = done-among;
      but = λ snapshot log at. kept so.done snapshot log (so.but snapshot log at);
      written = pages-next wrote;
      headed = headed;
      up = up;
      pending = omega (arith, pending, so.pending, length-append pages (page ∷ []));
      calls = more_calls (length pages + 1) (length (pages ++ page ∷ [])) s u false (omega (arith, length-append pages (page ∷ []))) (calls_law s t u (length pages) 1 false so.calls calls);
    }

    -- the power went
    pub writing-torn : (all : List ℕ) → ((other : ℕ) → Contains pages other → Contains all other) → Contains all page → length pages + 1 ≤ length all → 1 ≤ length all → Goes (PageTorn j.units page) mid new
        → ((ps snapshot : List ℕ) (log : List Group) → IsSomeAnd mid (JournalBut ps j snapshot log) → IsSomeAnd new (JournalBut (page ∷ ps) j snapshot log))
        → DeviceCalls 1 t u true → ArePagesTorn j all before new s u
    writing-torn all some this long least torn kept calls = record {
      left = λ snapshot log at. go before mid new snapshot log so.written torn at (kept so.done snapshot log (so.but snapshot log at));
      calls = more_calls (length pages + 1) (page_calls (length all)) s u true (omega (arith, long)) (calls_law s t u (length pages) 1 true so.calls calls);
    }
      where
        of-done : (other : ℕ) → Contains (page ∷ so.done) other → Contains all other
        of-done other there = elim (Contains-append_cases (page ∷ []) so.done other there) [
          | inl first ↦ subst (Contains all) (one other first) this
          | inr later ↦ some other (so.among other later)
        ]
          where
            one : (other : ℕ) → Contains (page ∷ []) other → page ≡ other
            one other (zero, low, is) = is
            one other (suc k, low, is) = absurd (omega (arith, low))

        of-page : (other : ℕ) → Contains (page ∷ []) other → Contains all other
        of-page other there = of-done other (Contains-append_left (page ∷ []) so.done other there)

        go : (before mid new : Option DiskState) (snapshot : List ℕ) (log : List Group) → Goes (WrotePages j.units pages row) before mid → Goes (PageTorn j.units page) mid new → IsSomeAnd before (JournalAt j snapshot log)
            → IsSomeAnd new (JournalBut (page ∷ so.done) j snapshot log) → Goes (LeavesBut j all snapshot log) before new
        go None mid new snapshot log one two at but = absurd at
        go (Some a) None new snapshot log one two at but = absurd one
        go (Some a) (Some b) None snapshot log one two at but = absurd two
        go (Some a) (Some b) (Some c) snapshot log one two at but = λ image may. (
            let left = law.left (page ∷ so.done) j snapshot log c image but may in (
              left.0,
              same-then pages all all (row_of j.units a.seen) (row_of j.units b.seen) (row_of j.units image) some (λ other there. there) one.others
                  (same-then (page ∷ []) (page ∷ so.done) all (row_of j.units b.seen) (row_of j.units c.seen) (row_of j.units image) of-page of-done two.row left.1),
            ))

  -- ---- then a sync comes

  module _ (pages : List ℕ) (before mid new : Option DiskState) (s t u : DiskStatus) (so : AreBeingWritten j pages row before mid s t) (some : 1 ≤ length pages) where
    pub writing-synced : Goes Synced mid new → u.pending ≡ 0 → DeviceCalls 1 t u false → ArePagesWritten j pages row before new s u
    writing-synced synced pending calls = record {
      at = λ snapshot log at. IsSomeAnd-step mid new (JournalBut so.done j snapshot log) (JournalAt j snapshot log) (so.but snapshot log at) synced (λ a b but step. law.synced so.done j snapshot log a b but step);
      wrote = goes-then (λ a b c one two. wrote-synced j.units row pages a b c one two) before mid new so.written synced;
      headed = IfSome-step mid new (λ d. IsHeaded j.units j.image j.selector d.seen) (λ d. IsHeaded j.units j.image j.selector d.seen) so.headed synced (λ a b headed step. subst (IsHeaded j.units j.image j.selector) (sym step.seen) headed);
      synced = record {
        calls = more_calls (length pages + 1) (page_calls (length pages)) s u false (omega (arith, some)) (calls_law s t u (length pages) 1 false so.calls calls);
        pending = pending;
        up = calls.down ∙ sym (or-false t.is_down) ∙ so.up;
      };
    }

    pub writing-unsynced : new ≡ mid → DeviceCalls 1 t u true → ArePagesTorn j pages before new s u
    writing-unsynced same calls = record {
      left = λ snapshot log at. subst (λ (o : Option DiskState). Goes (LeavesBut j pages snapshot log) before o) (sym same) (go before mid snapshot log so.written at (so.but snapshot log at));
      calls = more_calls (length pages + 1) (page_calls (length pages)) s u true (omega (arith, some)) (calls_law s t u (length pages) 1 true so.calls calls);
    }
      where
        go : (before mid : Option DiskState) (snapshot : List ℕ) (log : List Group) → Goes (WrotePages j.units pages row) before mid → IsSomeAnd before (JournalAt j snapshot log) → IsSomeAnd mid (JournalBut so.done j snapshot log)
            → Goes (LeavesBut j pages snapshot log) before mid
        go None mid snapshot log one at but = absurd at
        go (Some a) None snapshot log one at but = absurd one
        go (Some a) (Some b) snapshot log one at but = λ image may. (
            let left = law.left so.done j snapshot log b image but may in (
              left.0,
              same-then pages so.done pages (row_of j.units a.seen) (row_of j.units b.seen) (row_of j.units image) (λ other there. there) so.among one.others left.1,
            ))

-- ---- parts, each with its sync

module _ (j : JournalState) (row : List ℕ) where
  pub written-none : (told : Option DiskState) (s : DiskStatus) → IfSome told (λ d. IsHeaded j.units j.image j.selector d.seen) → s.is_down ≡ false → s.pending ≡ 0 → ArePagesWritten j [] row told told s s
  written-none told s headed up pending = record {
    at = λ snapshot log at. at;
    wrote = told-none j.units row told;
    headed = headed;
    synced = record { calls = no-calls s; pending = pending; up = up };
  }

  module _ (ps qs : List ℕ) (before mid new : Option DiskState) (s t u : DiskStatus) (aligned : length ps % 64 ≡ 0) (one : ArePagesWritten j ps row before mid s t) where
    pub written-both : ArePagesWritten j qs row mid new t u → ArePagesWritten j (ps ++ qs) row before new s u
    written-both two = record {
      at = λ snapshot log at. two.at snapshot log (one.at snapshot log at);
      wrote = goes-then (λ a b c first second. wrote-both j.units row ps qs a b c first second) before mid new one.wrote two.wrote;
      headed = two.headed;
      synced = record {
        calls = more_calls (page_calls (length ps) + page_calls (length qs)) (page_calls (length (ps ++ qs))) s u false (omega (arith, aligned, length-append ps qs))
            (calls_law s t u (page_calls (length ps)) (page_calls (length qs)) false one.synced.calls two.synced.calls);
        pending = two.synced.pending;
        up = two.synced.up;
      };
    }

    pub torn-both : (rest all : List ℕ) → all ≡ (ps ++ qs) ++ rest → ArePagesTorn j qs mid new t u → ArePagesTorn j all before new s u
    torn-both rest all is two = record {
      left = λ snapshot log at. go before mid new snapshot log one.wrote at (one.at snapshot log at) (two.left snapshot log (one.at snapshot log at));
      calls = more_calls (page_calls (length ps) + page_calls (length qs)) (page_calls (length all)) s u true (omega (arith, aligned, length-append ps qs, length-append (ps ++ qs) rest, ap (λ (l : List ℕ). length l) is))
          (calls_law s t u (page_calls (length ps)) (page_calls (length qs)) true one.synced.calls two.calls);
    }
      where
        of-first : (page : ℕ) → Contains ps page → Contains all page
        of-first page there = subst (λ (l : List ℕ). Contains l page) (sym is) (Contains-append_left (ps ++ qs) rest page (Contains-append_left ps qs page there))

        of-second : (page : ℕ) → Contains qs page → Contains all page
        of-second page there = subst (λ (l : List ℕ). Contains l page) (sym is) (Contains-append_left (ps ++ qs) rest page (Contains-append_right ps qs page there))

        go : (before mid new : Option DiskState) (snapshot : List ℕ) (log : List Group) → Goes (WrotePages j.units ps row) before mid → IsSomeAnd before (JournalAt j snapshot log) → IsSomeAnd mid (JournalAt j snapshot log)
            → Goes (LeavesBut j qs snapshot log) mid new → Goes (LeavesBut j all snapshot log) before new
        go None mid new snapshot log first at between second = absurd at
        go (Some a) None new snapshot log first at between second = absurd between
        go (Some a) (Some b) None snapshot log first at between second = absurd second
        go (Some a) (Some b) (Some c) snapshot log first at between second = λ image may. (
            let left = second image may in (
              left.0,
              same-then ps qs all (row_of j.units a.seen) (row_of j.units b.seen) (row_of j.units image) of-first of-second first.others left.1,
            ))

-- ---- a list, page by page

-- the first pages of a list are in it, and so is the next one
pub taken-in : (pages : List ℕ) (i page : ℕ) → Contains (take i pages) page → Contains pages page
taken-in pages i page there = subst (λ (l : List ℕ). Contains l page) (take-append-drop i pages) (Contains-append_left (take i pages) (drop i pages) page there)

module _ (law : PagesLaw) (j : JournalState) (row pages : List ℕ) (before mid new : Option DiskState) (s t u : DiskStatus) (so : AreBeingWritten j pages row before mid s t) (some : 1 ≤ length pages) where
  -- by whether the sync was done
  pub writing-ends : (r : Result (Unit {0}) Down) → OnOk r (Goes Synced mid new) → OnErr r (new ≡ mid) → u.pending ≡ (if is_ok r then 0 else t.pending) → DeviceCall t u (is_err r) → WritingLeaves j pages row before new s u r
  writing-ends (Ok done) ok err pending call = writing-synced law j row pages before mid new s t u so some ok pending call.counts
  writing-ends (Err down) ok err pending call = writing-unsynced law j row pages before mid new s t u so some err call.counts

-- a part of a list behind the first of it
pub part-is : (pages : List ℕ) (at end : ℕ) → at ≤ end → take at pages ++ take (end - at) (drop at pages) ≡ take end pages
part-is pages at end order = sym (take-add at (end - at) pages) ∙ ap (λ (n : ℕ). take n pages) (omega (arith, order))

pub aligned-take : (pages : List ℕ) (at : ℕ) → at < length pages → (at % 64 ≡ 0) ⊎ (at ≡ length pages) → length (take at pages) % 64 ≡ 0
aligned-take pages at low aligned = elim aligned [
  | inl is ↦ (let long : length (take at pages) ≡ at = omega (arith, low, length-take at pages) in ap (λ n. n % 64) long ∙ is)
  | inr end ↦ absurd (omega (arith, low, end))
]

-- so it is of the next part, or that is the last one
pub aligned-next : (long at end : ℕ) → at < long → (at % 64 ≡ 0) ⊎ (at ≡ long) → end ≡ min long (at + 64) → (end % 64 ≡ 0) ⊎ (end ≡ long)
aligned-next long at end low aligned is = elim aligned [
  | inl even ↦ elim (cases_lt long (at + 64)) [ inl less ↦ inr (omega (arith, is, less)) | inr more ↦ inl (omega (arith, is, more, even)) ]
  | inr last ↦ absurd (omega (arith, low, last))
]
