use Rattle.std.proofs.Common.{◌≡◌, ◌+◌, ◌-◌, ◌∷◌, ◌++◌, suc, length, take, drop, ◌∙◌, ap, sym, arith, add-one, length-drop}
use Rattle.std.proofs.lemmas.List.{set_split, take_all}
use Rattle.kv_rm.proofs.list.split.Goals as goal

pub returns-in-Here : goal.returns-in-Here
returns-in-Here c =
    let i = c.in-Here.i in
    let store = c.args.store.now in
    let here = c.in-Here.ensures in
    let tail : drop (suc i) store ≡ take (length store - (i + 1)) (drop (i + 1) store) = rw (add-one i) (sym (take_all (length store - suc i) (drop (suc i) store) (omega (arith, length-drop (suc i) store)))) in
    record {
      puts = λ value. here.replaces value ∙ set_split store i _ here.within ∙ ap (λ l. take i store ++ record { key = c.args.key.now; value = value } ∷ l) tail;
      removes = here.removes ∙ ap (λ l. take i store ++ l) tail;
    }
