-- `asking::act` meets its contract: the name is kept, and the action made under it.
use Rattle.std.proofs.Common.{take, ap, ◌∙◌, refl}
use Rattle.actions.specs.Actions.{lent, request, action_of}
use Rattle.interpreter.proofs.asking.act.Goals as goal

pub returns : goal.returns
returns c = let a = c.args in
    let q = a.q in
    let m = a.memory.now in
    let kept = c.keep_name-name_size.ensures.same in
    record {
      answer =
          c.action.ensures
          ∙ ap (λ name. action_of a.state (take a.console.id m.id) (lent m.arena m.undo m.ids) (request name q.action q.time)) kept;
      kept = (refl, refl);
    }
