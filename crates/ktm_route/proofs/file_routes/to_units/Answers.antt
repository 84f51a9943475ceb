use Rattle.std.specs.Prelude.{refl}
use Rattle.ktm_world.specs.declared.command.Command.TheVariants.{WriteUnits}
use Rattle.ktm_world.specs.Labels.{file_tests}
use Rattle.txf_opens.specs.Acts.{open_of}
use Rattle.ktm_memory.specs.Memory.{present_of}
use Rattle.ktm_memory.specs.Rules.{PutsBy}
use Rattle.ktm_route.proofs.FileRoutes.{handed_on, units_routed}
use Rattle.ktm_route.proofs.OpenFiles.{handed_ok}
use Rattle.ktm_route.proofs.Routes.{refused_first}
use Rattle.ktm_route.proofs.file_routes.to_units.Goals as goal

pub returns-in_err-file : goal.returns-in_err-file
returns-in_err-file c =
    let x = present_of c.args.memory.now in
    record {
      routes = handed_on x c.args.process (WriteUnits c.args.file c.args.start c.args.contents) c.from_residual.result c.in_err-file.field-0.0 c.from_residual.ensures.1
          (refused_first x c.args.process (WriteUnits c.args.file c.args.start c.args.contents) (file_tests x c.args.process c.args.file) _ c.in_err-file.field-0.0 c.requires.up refl (c.in_err-file.ensures.err));
      puts = λ rule put. handed_ok c.from_residual.result c.in_err-file.field-0.0 (PutsBy rule) c.from_residual.ensures.1;
    }

pub returns-clause-routes : goal.returns-clause-routes
returns-clause-routes c =
    let x = present_of c.args.memory.now in
    let (named, passed) = c.in_ok-file.ensures.ok in
    units_routed x c.args.process c.requires.up c.law_of_files.ensures c.requires.standing c.requires.counts c.args.file c.in_ok-file.file named passed c.args.start c.args.contents c.args.extent c.requires.command c.requires.units

pub returns-clause-puts : goal.returns-clause-puts
returns-clause-puts c =
    let (named, passed) = c.in_ok-file.ensures.ok in
    λ rule put. put (open_of c.in_ok-file.file) named
