use Rattle.shop_version.proofs.Kept.{keys_are}
use Rattle.shop_version.proofs.drafts.all_keys.Goals as goal

pub returns : goal.returns
returns c =
    let rows = c.args.rows.now.list in
    let count = c.commit_count.ensures.commits rows c.args.version c.requires.drafted c.requires.draft in
    keys_are rows c.args.version c.requires.drafted c.requires.not_live c.args.draft.now c.requires.draft c.in_ok-keys.keys.items c.push.new.self.items c.push_commits.new.keys.items c.draft_key.result c.commit_count.result
    c.in_ok-keys.ensures c.draft_key.ensures c.in_ok-push.ensures.items count c.in_ok-push_commits.ensures
