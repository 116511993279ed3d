use Rattle.std.proofs.Common.{List, [], ◌∷◌, ◌++◌, sym, ap, ◌∙◌}
use Rattle.std.proofs.lemmas.Bool.{not-true, not-false}
use Rattle.shop_defs.specs.declared.key.Key.{Key}
use Rattle.shop_defs.specs.Entities.{entity_number}
use Rattle.shop_operations.specs.References.{live}
use Rattle.shop_rows.specs.Lookups.{referrers_by}
use Rattle.shop_version.proofs.LivePart.{other_parts, referring_parts, renamed, root_part}
use Rattle.shop_version.proofs.making.member_keys.Goals as goal

pub returns-then-ne : goal.returns-then-ne
returns-then-ne c = c.new.ensures ∙ other_parts c.args.rows.now.list c.args.root.now c.args.member.now c.requires.member (not-true _ (sym c.ne.ensures ∙ c.if-ne.true))

pub returns-then-eq : goal.returns-then-eq
returns-then-eq c =
    c.in_ok-push.ensures.ok
    ∙ (ap (λ (keys : List Key). keys ++ c.root_key-key.result ∷ []) c.new-keys.ensures
    ∙ (ap (λ (key : Key). key ∷ []) c.root_key-key.ensures
    ∙ root_part c.args.rows.now.list c.args.root.now c.args.member.now c.requires.member c.requires.drafted.in_order c.requires.drafted.formed c.requires.there (not-false _ (sym c.ne.ensures ∙ c.if-ne.false)) (sym c.eq.ensures ∙ c.if-eq.true)))

pub returns : goal.returns
returns c =
    renamed c.referrers_by.result _ _ c.referrers_by.ensures.keys
    (ap (λ (key : Key). referrers_by c.args.member.now.entity (live c.args.rows.now.list) (entity_number key.entity) key.id) c.root_key-key.ensures
    ∙ referring_parts c.args.rows.now.list c.args.root.now c.args.member.now c.requires.member (not-false _ (sym c.ne.ensures ∙ c.if-ne.false)) (sym c.eq.ensures ∙ c.if-eq.false))
