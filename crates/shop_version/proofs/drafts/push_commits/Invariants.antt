use Rattle.std.proofs.Common.{◌≡◌, ◌≤◌, ◌++◌}
use Rattle.shop_version.specs.Taking.{commit_keys, numbers}
use Rattle.shop_version.proofs.drafts.push_commits.Given as goal

abbrev pub invariant-loop-number : goal.invariant-loop-number
invariant-loop-number l = record {
  pushed : l.keys.items ≡ l.initial.keys.items ++ commit_keys l.version (numbers 1 l.number);
  most : l.number ≤ l.count;
}
