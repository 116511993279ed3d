use Rattle.std.proofs.Common.{refl}
use Rattle.std.specs.Option.{option_map}
use Rattle.paged.specs.Paged.{all_pairs}
use Rattle.shop_rows.proofs.MovedMentions.{with_ascends, gone_are}
use Rattle.shop_rows.proofs.pages.without_these.Goals as goal

pub with-requires : goal.with-requires
with-requires c = rw (c.as_slice-2.ensures.value, c.in_ok-changes.ensures, c.as_slice.ensures.value) (with_ascends _ c.sort_once.new.items.items c.sort_once.ensures.ascends)

pub returns-clause-sorted : goal.returns-clause-sorted
returns-clause-sorted c =
    (gone_are (option_map (λ leaf. leaf.0)) c.args.gone.items c.sort_once.new.items.items c.as_slice.result.now (all_pairs c.args.mentions.now) (all_pairs c.in_ok-next.next) c.in_ok-changes.changes.items c.as_slice-2.result.now
    c.in_ok-changes.ensures refl c.as_slice.ensures.value c.as_slice-2.ensures.value c.in_ok-next.ensures c.sort_once.ensures.same c.requires).sorted

pub returns-clause-fit : goal.returns-clause-fit
returns-clause-fit c =
    (gone_are (option_map (λ leaf. leaf.0)) c.args.gone.items c.sort_once.new.items.items c.as_slice.result.now (all_pairs c.args.mentions.now) (all_pairs c.in_ok-next.next) c.in_ok-changes.changes.items c.as_slice-2.result.now
    c.in_ok-changes.ensures refl c.as_slice.ensures.value c.as_slice-2.ensures.value c.in_ok-next.ensures c.sort_once.ensures.same c.requires).fit
