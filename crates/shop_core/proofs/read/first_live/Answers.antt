use Rattle.std.proofs.Common.{[], ◌∷◌, map, sym, subst, arith}
use Rattle.std.proofs.lemmas.List.{length-map, map-append}
use Rattle.shop_core.specs.Seeing.{is_of}
use Rattle.shop_core.proofs.Listed.{AreListed, are_all_full, are_all_before, are_all_ended, one_more}
use Rattle.shop_core.proofs.read.first_live.Goals as goal

pub returns-then-len-ge-MOST_LISTED : goal.returns-then-len-ge-MOST_LISTED
returns-then-len-ge-MOST_LISTED c =
    are_all_full (is_of c.args.entity) c.args.rows (map (λ row. row.now) c.loop-row.listed.items) c.loop-row.rest c.loop-row.invariant
    (omega (arith, length-map c.loop-row.listed.items (λ row. row.now), c.loop-row.listed.ok.0, c.len.ensures, c.if-len-ge-MOST_LISTED.true))

pub returns-then-not-is_live_of : goal.returns-then-not-is_live_of
returns-then-not-is_live_of c =
    are_all_before (is_of c.args.entity) c.args.rows (map (λ row. row.now) c.loop-row.listed.items) c.in-Some.row.now c.next.new.self
    (subst (AreListed (is_of c.args.entity) c.args.rows (map (λ row. row.now) c.loop-row.listed.items)) c.in-Some.ensures.steps c.loop-row.invariant)
    (sym c.if-not-is_live_of.ensures)

pub loop-row-preserved : goal.loop-row-preserved
loop-row-preserved c =
    let so_far = subst (AreListed (is_of c.args.entity) c.args.rows (map (λ row. row.now) c.loop-row.listed.items)) c.in-Some.ensures.steps c.loop-row.invariant in
    let more = one_more (is_of c.args.entity) c.args.rows (map (λ row. row.now) c.loop-row.listed.items) c.in-Some.row.now c.next.new.self so_far (sym c.if-not-is_live_of.ensures)
    (omega (arith, length-map c.loop-row.listed.items (λ row. row.now), c.loop-row.listed.ok.0, c.len.ensures, c.if-len-ge-MOST_LISTED.false)) in
    rw (c.in_ok-push.ensures.items, map-append (λ row. row.now) c.loop-row.listed.items (c.in-Some.row ∷ [])) more

pub returns : goal.returns
returns c =
    are_all_ended (is_of c.args.entity) c.args.rows (map (λ row. row.now) c.loop-row.listed.items)
    (subst (AreListed (is_of c.args.entity) c.args.rows (map (λ row. row.now) c.loop-row.listed.items)) c.in_default.ensures.steps.0 c.loop-row.invariant)
