-- Forms by the lengths of their names.
use Rattle.std.specs.Prelude.{ℕ, ◌==◌, List, length, filter}
use Rattle.ktm_script.specs.declared.form.Form.{Form}
use Rattle.ktm_script.specs.Reading.{form_name, forms}

-- the forms whose names have so many characters
abbrev pub forms_of_length : ℕ → List Form
forms_of_length len = filter (λ form. length (form_name form) == len) forms
