use Rattle.std.proofs.Common.{◌≡◌, ◌++◌, ◌∙◌, sym, ap, Some}
use Rattle.std.specs.Prelude.{option_to_list}
use Rattle.std.specs.Option.{option_map}
use Rattle.txf_overlay.specs.Written.{bytes_at, file_of, without_file}
use Rattle.txf_overlay.proofs.FilesMap.{first-none, first-some}
use Rattle.txf_overlay.proofs.files.WrittenFiles.pop.Goals as goal

pub returns-in-None-clause-none : goal.returns-in-None-clause-none
returns-in-None-clause-none c = first-none c.args.self.now.written c.in-None.ensures

pub returns-clause-written : goal.returns-clause-written
returns-clause-written c =
    let ws = c.args.self.now.written in
    let w = c.in-Some.written.now in
    let first = first-some ws w c.law_of_files.ensures.rise c.in-Some.ensures in
    let taken : c.remove.result ≡ Some w =
    c.remove.ensures.file ∙ ap (λ file. option_map (file_of file) (bytes_at ws file)) c.file-file.ensures ∙ ap (option_map (file_of w.file)) first.there in
    let left = c.remove.ensures.written ∙ ap (without_file ws) c.file-file.ensures in
    first.rest ∙ (λ i. option_to_list (sym taken i) ++ sym left i)

pub returns-clause-none : goal.returns-clause-none
returns-clause-none c =
    let ws = c.args.self.now.written in
    let w = c.in-Some.written.now in
    let first = first-some ws w c.law_of_files.ensures.rise c.in-Some.ensures in
    let taken : c.remove.result ≡ Some w =
    c.remove.ensures.file ∙ ap (λ file. option_map (file_of file) (bytes_at ws file)) c.file-file.ensures ∙ ap (option_map (file_of w.file)) first.there in
    rw taken tt
