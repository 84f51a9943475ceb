-- What is read as a line is spelled so, and what is spelled so is read.
use Rattle.std.proofs.Common.{◌≡◌, ◌⊎◌, ℕ, ◌^◌, ◌<◌, ◌≤◌, List, [], ◌∷◌, ◌++◌, length, Option, Some, None, Result, Ok, Err, codes, refl, sym, ◌∙◌, ap, subst, arith, lit<, inl, inr, IfOk, option_map}
use Rattle.std.proofs.lemmas.Option.{same_Some}
use Rattle.std.specs.Fmt.{decimal}
use Rattle.ktm_base.specs.declared.id.Pid.{Pid}
use Rattle.ktm_base.specs.declared.limits.TheConstants.{MOST_LINE_BYTES}
use Rattle.ktm_codec.proofs.WordLemmas.{after_word_is, after_word_again}
use Rattle.ktm_codec.specs.Word.{after_word}
use Rattle.ktm_world.specs.declared.command.Line.{Line}
use Rattle.ktm_world.specs.declared.command.Line.TheVariants.{Tick, Cut, Crash, Restart, Process}
use Rattle.ktm_codec.proofs.HexLemmas.{option_map_some}
use Rattle.ktm_codec.proofs.Steps.{bind_some, at_end_is, on_some_is}
use Rattle.ktm_codec.specs.Steps.{◌>>=◌, at_end}
use Rattle.ktm_script.specs.Reading.{Gives, last_count_at, process_at, command_at, process_line_at, line_at}
use Rattle.ktm_script.specs.Spelling.{space, process_spelling, command_spelling, IsInRange, IsLine, spelling}
use Rattle.ktm_script.specs.declared.fault.LineFault.{LineFault}
use Rattle.ktm_script.specs.declared.fault.LineFault.TheVariants.{BadLine, NoMemory}
use Rattle.ktm_script.proofs.CommandLemmas.{command_is, command_again}
use Rattle.ktm_script.proofs.PartLemmas.{reads_number, reads_process}
use Rattle.ktm_script.proofs.Readers.{spaced, whole_is, whole_again}

-- a line with its values in range, and its spelling
abbrev Read : List ℕ → Line → Type 0
Read text x = IsInRange x × (text ≡ spelling x)

-- a word and a number
count_is : (word : List ℕ) (most : ℕ) (make : ℕ → Line) → most < 2 ^ 64 → ((n : ℕ) → n ≤ most → IsInRange (make n)) → ((n : ℕ) → word ++ space ∷ decimal n ≡ spelling (make n))
    → (text : List ℕ) (x : Line) → option_map make (last_count_at most text) ≡ Some x → Read (word ++ text) x
unfolding last_count_at
count_is word most make fits range spelled text x e = option_map_some make (last_count_at most text) x e (λ n f same.
    let read = whole_is (spaced (reads_number most fits)) text n f in
    subst (Read (word ++ text)) same (range n read.0, ap (λ (xs : List ℕ). word ++ xs) read.1 ∙ spelled n))

count_again : (most n : ℕ) → most < 2 ^ 64 → n ≤ most → last_count_at most (space ∷ decimal n) ≡ Some n
unfolding last_count_at
count_again most n fits within = whole_again (spaced (reads_number most fits)) n within

crash_is : (text : List ℕ) (x : Line) → at_end Crash text ≡ Some x → Read (codes "crash" ++ text) x
crash_is text x e =
    let whole = at_end_is Crash x text e in
    subst (Read (codes "crash" ++ text)) whole.1 (tt, ap (λ (xs : List ℕ). codes "crash" ++ xs) whole.0)

process_line_is : (text : List ℕ) (x : Line) → process_line_at text ≡ Some x → Read text x
unfolding process_line_at
process_line_is text x e = bind_some _ (process_at text) x e (λ p f g.
    bind_some _ (command_at p.1) x g (λ c h whole.
    let first = reads_process.found text p.0 p.1 f in
    let second = command_is p.1 c h in
    subst (Read text) (same_Some (Process p.0 c) x whole) ((first.0, second.0), first.1 ∙ ap (λ (xs : List ℕ). process_spelling p.0 ++ xs) second.1)))

behind_word : (word text rest : List ℕ) (x : Line) → after_word word text ≡ Some rest → Read (word ++ rest) x → Read text x
behind_word word text rest x e read = (read.0, after_word_is word text rest e ∙ read.1)

-- what is read has its values in range, and is spelled so
line_is : (text : List ℕ) (x : Line) → line_at text ≡ Some x → Read text x
unfolding line_at
line_is text x e =
    on_some_is (after_word (codes "tick") text) _ _ x e (λ rest f g.
    behind_word (codes "tick") text rest x f (count_is (codes "tick") 0xFFFF_FFFF Tick (lit< tt) (λ n h. omega arith) (λ n. refl) rest x g)) (λ e₁.
    on_some_is (after_word (codes "cut") text) _ _ x e₁ (λ rest f g.
    behind_word (codes "cut") text rest x f (count_is (codes "cut") 0xFFFF_FFFF_FFFF_FFFF Cut (lit< tt) (λ n h. omega arith) (λ n. refl) rest x g)) (λ e₂.
    on_some_is (after_word (codes "crash") text) (at_end Crash) _ x e₂ (λ rest f g. behind_word (codes "crash") text rest x f (crash_is rest x g)) (λ e₃.
    on_some_is (after_word (codes "restart") text) _ _ x e₃ (λ rest f g.
    behind_word (codes "restart") text rest x f (count_is (codes "restart") 0xFFFF_FFFF_FFFF_FFFF Restart (lit< tt) (λ n h. omega arith) (λ n. refl) rest x g)) (λ e₄.
    process_line_is text x e₄))))

-- the words of the other lines
no_tick : (rest : List ℕ) → (after_word (codes "tick") (codes "cut" ++ rest) ≡ None) × (after_word (codes "tick") (codes "crash" ++ rest) ≡ None)
    × (after_word (codes "tick") (codes "restart" ++ rest) ≡ None) × (after_word (codes "tick") (codes "p" ++ rest) ≡ None)
unfolding after_word
no_tick rest = (refl, refl, refl, refl)

no_cut : (rest : List ℕ) → (after_word (codes "cut") (codes "crash" ++ rest) ≡ None) × (after_word (codes "cut") (codes "restart" ++ rest) ≡ None)
    × (after_word (codes "cut") (codes "p" ++ rest) ≡ None)
unfolding after_word
no_cut rest = (refl, refl, refl)

no_crash : (rest : List ℕ) → (after_word (codes "crash") (codes "restart" ++ rest) ≡ None) × (after_word (codes "crash") (codes "p" ++ rest) ≡ None)
unfolding after_word
no_crash rest = (refl, refl)

no_restart : (rest : List ℕ) → after_word (codes "restart") (codes "p" ++ rest) ≡ None
unfolding after_word
no_restart rest = refl

-- what is spelled so is read
line_again : (x : Line) → IsInRange x → line_at (spelling x) ≡ Some x
unfolding line_at process_line_at
line_again (Tick n) h = rw (after_word_again (codes "tick") (space ∷ decimal n), count_again 0xFFFF_FFFF n (lit< tt) (omega arith)) refl
line_again (Cut n) h =
    let rest = space ∷ decimal n in
    rw ((no_tick rest).0, after_word_again (codes "cut") rest, count_again 0xFFFF_FFFF_FFFF_FFFF n (lit< tt) (omega arith)) refl
line_again Crash h = rw ((no_tick []).1, (no_cut []).0, after_word_again (codes "crash") []) refl
line_again (Restart n) h =
    let rest = space ∷ decimal n in
    rw ((no_tick rest).2, (no_cut rest).1, (no_crash rest).0, after_word_again (codes "restart") rest, count_again 0xFFFF_FFFF_FFFF_FFFF n (lit< tt) (omega arith)) refl
line_again (Process p c) h =
    let command = space ∷ command_spelling c in
    let rest = decimal p.0 ++ command in
    rw ((no_tick rest).3, (no_cut rest).2, (no_crash rest).1, no_restart rest, reads_process.every p command h.0 refl, command_again c h.1) refl

-- a line has one meaning
pub one_meaning : (x y : Line) → IsLine x → IsLine y → spelling x ≡ spelling y → x ≡ y
one_meaning x y h k e = same_Some x y (sym (line_again x h.in_range) ∙ ap line_at e ∙ line_again y k.in_range)

-- what was read of a line that is short enough
pub value_of : (r : Result Line LineFault) (text : List ℕ) → length text ≤ MOST_LINE_BYTES → Gives r (line_at text) → IfOk r (λ x. IsLine x × (spelling x ≡ text))
value_of (Err fault) text short gives = tt
value_of (Ok x) text short gives =
    let read = line_is text x gives in
    (record { in_range = read.0; short = subst (λ (xs : List ℕ). length xs ≤ MOST_LINE_BYTES) read.1 short }, sym read.1)

-- where a line is spelled, it is what was read, unless memory ran out
pub exact_of : (r : Result Line LineFault) (text : List ℕ) (x : Line) → Gives r (line_at text) → IsLine x → spelling x ≡ text → (r ≡ Ok x) ⊎ (r ≡ Err NoMemory)
exact_of r text x gives h e = exact r (subst (Gives r) (ap line_at (sym e) ∙ line_again x h.in_range) gives)
  where
    exact : (r : Result Line LineFault) → Gives r (Some x) → (r ≡ Ok x) ⊎ (r ≡ Err NoMemory)
    exact (Ok y) gives = inl (cc)
    exact (Err BadLine) gives = cc
    exact (Err NoMemory) gives = inr refl

made_of : {A B : Type 0} (make : A → B) (o : Option A) → (o >>= λ x. Some (make x)) ≡ option_map make o
made_of make None = refl
made_of make (Some x) = refl

-- a line of a process begins with no other word
pub line_of_process : (text rest : List ℕ) (process : Pid) → Some (process, rest) ≡ process_at text → line_at text ≡ option_map (Process process) (command_at rest)
unfolding line_at process_line_at
line_of_process text rest process read =
    let behind = decimal process.0 ++ rest in
    let whole : text ≡ codes "p" ++ behind = (reads_process.found text process rest (sym read)).1 in
    let again : process_at (codes "p" ++ behind) ≡ Some (process, rest) = rw (← whole) (sym read) in
    rw (whole, (no_tick behind).3, (no_cut behind).2, (no_crash behind).1, no_restart behind, again) (made_of (Process process) (command_at rest))
