use Rattle.std.proofs.Common.{◌∙◌, arith}
use Rattle.shop_version.proofs.Steps.{commits_step}
use Rattle.shop_version.proofs.drafts.push_commits.Goals as goal

pub loop-number-preserved : goal.loop-number-preserved
loop-number-preserved c = record {
  pushed = c.in_ok-push.ensures.items ∙ commits_step c.args.version c.args.keys.now.items c.loop-number.keys.items c.loop-number.number c.commit_key.result c.loop-number.invariant.pushed c.commit_key.ensures;
  most = omega (arith, c.loop-number-test.true);
}
