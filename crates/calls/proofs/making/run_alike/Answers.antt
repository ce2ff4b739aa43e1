use Rattle.calls.proofs.Outcoming.{keeps, alike}
use Rattle.calls.proofs.Keeping.{calls_keep_the_law}
use Rattle.calls.proofs.making.run_alike.Goals as goal

pub returns : goal.returns
returns g c =
    let m = g.C.Carrier in
    let n = g.D.Carrier in
    let left = c.run-left_run.ensures in
    let right = c.run-right_run.ensures in
    record {
      left_runs = left;
      right_runs = right;
      left_law = keeps calls_keep_the_law m c.args.script c.args.left c.args.left_work.now c.run-left_run.result c.run-left_run.new.work left;
      right_law = keeps calls_keep_the_law n c.args.script c.args.right c.args.right_work.now c.run-right_run.result c.run-right_run.new.work right;
      same_bytes_same_answers = alike m n c.args.script c.args.left c.args.right c.args.left_work.now c.args.right_work.now c.run-left_run.new.work c.run-right_run.new.work c.run-left_run.result c.run-right_run.result left right;
    }
