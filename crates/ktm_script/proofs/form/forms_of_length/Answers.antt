use Rattle.std.proofs.Common.{◌≢◌, length, sym, arith}
use Rattle.ktm_script.specs.Reading.{form_name, forms}
use Rattle.ktm_script.proofs.FormLemmas.{filter-none}
use Rattle.ktm_script.proofs.form.forms_of_length.Goals as goal

pub returns-in_default : goal.returns-in_default
returns-in_default c =
    let n4 : 4 ≢ c.args.length = omega arith in
    let n5 : 5 ≢ c.args.length = omega arith in
    let n6 : 6 ≢ c.args.length = omega arith in
    let n7 : 7 ≢ c.args.length = omega arith in
    let n8 : 8 ≢ c.args.length = omega arith in
    let n9 : 9 ≢ c.args.length = omega arith in
    let n10 : 10 ≢ c.args.length = omega arith in
    let n11 : 11 ≢ c.args.length = omega arith in
    let n12 : 12 ≢ c.args.length = omega arith in
    let n13 : 13 ≢ c.args.length = omega arith in
    let n14 : 14 ≢ c.args.length = omega arith in
    let n15 : 15 ≢ c.args.length = omega arith in
    let n16 : 16 ≢ c.args.length = omega arith in
    let n17 : 17 ≢ c.args.length = omega arith in
    let n18 : 18 ≢ c.args.length = omega arith in
    let n19 : 19 ≢ c.args.length = omega arith in
    let n20 : 20 ≢ c.args.length = omega arith in
    let n21 : 21 ≢ c.args.length = omega arith in
    let n22 : 22 ≢ c.args.length = omega arith in
    let n25 : 25 ≢ c.args.length = omega arith in
    let n30 : 30 ≢ c.args.length = omega arith in
    let n32 : 32 ≢ c.args.length = omega arith in
    sym (filter-none (λ form. length (form_name form)) c.args.length forms
    (n17, (n15, (n17, (n19, (n25, (n21, (n19, (n22, (n30, (n16, (n14, (n17, (n18, (n15, (n18, (n14, (n16, (n17, (n18, (n20, (n17, (n16, (n32, (n32, (n10, (n20, (n8, (n9, (n12, (n13, (n16, (n10, (n15, (n15, (n8, (n20, (n25, (n25, (n18, (n9, (n19, (n5, (n7, (n5, (n6, (n11, (n15, (n4, tt)))))))))))))))))))))))))))))))))))))))))))))))))
