-- The words of the program, and what it says to others.
use Rattle.std.specs.Prelude.{ℕ, ◌-◌, ◌^◌, nat_le, List, [], ◌∷◌, ◌++◌, codes, decimal, Option, Some, None, option_and_then, option_map, if◌then◌else◌}
use Rattle.std.specs.Str.{bytes_eq}
use Rattle.ktm_base.specs.declared.limits.TheConstants.{LEAST_UNITS, MOST_UNITS}
use Rattle.ktm_codec.specs.Number.{last_number_at}
use Rattle.ktm_gen.specs.declared.generator.TheConstants.{MOST_LINES}
use Rattle.ktm_run.specs.declared.form.Form.{Form}
use Rattle.ktm_run.specs.declared.form.Form.TheVariants.{Run, Format, Dump, Gen}

-- as many units as an image may have, in decimal digits without leading zeros
abbrev pub units_in : List ℕ → Option ℕ
units_in word = option_and_then (λ units. if nat_le LEAST_UNITS units then Some units else None) (last_number_at MOST_UNITS word)

-- as many lines as are taken of a generated script, at least one, in decimal digits without leading zeros
abbrev pub lines_in : List ℕ → Option ℕ
lines_in word = option_and_then (λ lines. if nat_le 1 lines then Some lines else None) (last_number_at MOST_LINES word)

-- dump IMAGE
abbrev pub form_of_two : List ℕ → Option Form
form_of_two form = if bytes_eq form (codes "dump") then Some Dump else None

-- run IMAGE SCRIPT, and format IMAGE UNITS
abbrev pub form_of_three : List ℕ → List ℕ → Option Form
form_of_three form last =
    if bytes_eq form (codes "run") then Some Run else
    (if bytes_eq form (codes "format") then option_map Format (units_in last) else None)

-- gen IMAGE NUMBER LINES
abbrev pub form_of_four : List ℕ → List ℕ → List ℕ → Option Form
form_of_four form number lines =
    if bytes_eq form (codes "gen") then option_and_then (λ n. option_map (λ l. Gen n l) (lines_in lines)) (last_number_at (2 ^ 64 - 1) number) else None

-- the form that the words are
abbrev pub form_of : List (List ℕ) → Option Form
form_of [] = None
form_of (form ∷ []) = None
form_of (form ∷ image ∷ []) = form_of_two form
form_of (form ∷ image ∷ last ∷ []) = form_of_three form last
form_of (form ∷ image ∷ number ∷ lines ∷ []) = form_of_four form number lines
form_of (form ∷ image ∷ number ∷ lines ∷ more ∷ words) = None

-- what is said where the words are of no form
abbrev pub usage_line : List ℕ
usage_line = codes "usage: ktm run IMAGE SCRIPT | format IMAGE UNITS | dump IMAGE | gen IMAGE NUMBER LINES" ++ 10 ∷ []

-- what is said where the image cannot be opened, for what stands at this offset
abbrev pub bad_image_line : ℕ → List ℕ
bad_image_line offset = codes "bad image at " ++ decimal offset ++ 10 ∷ []

-- what is said where the image is worn
abbrev pub worn_line : List ℕ
worn_line = codes "worn image" ++ 10 ∷ []

-- what is said of an image without a byte
abbrev pub blank_line : List ℕ
blank_line = codes "blank image" ++ 10 ∷ []
