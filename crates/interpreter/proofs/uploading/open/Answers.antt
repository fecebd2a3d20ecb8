-- `uploading::open` meets its contract: name and symbol list are kept.
use Rattle.std.proofs.Common.{refl, arith}
use Rattle.interpreter.specs.Lines.{list_in}
use Rattle.interpreter.proofs.uploading.open.Goals as goal

pub returns : goal.returns
unfolding list_in
returns c = let console = c.args.console in
    let within = c.requires.0 in
    let name = c.keep_name-name_size.ensures in
    let list = c.keep_hex-list_size.ensures in
    record {
      value = refl;
      holds = (name, list);
      within =
          record {
            text = within.text;
            id = within.id;
            name = omega (arith, name.room);
            list = omega (arith, list.room);
            file = omega arith;
          };
    }
