-- Rows by rank are the same rows, and stand in the order of their ranks.
use Rattle.std.proofs.Common.{◌≡◌, ◌≢◌, ℕ, ◌&&◌, ◌⊎◌, inl, inr, ◌↔◌, Bool, true, false, List, [], ◌∷◌, map, filter, Option, Some, None, refl, sym, ap, subst, ◌∙◌}
use Rattle.std.specs.declared.cmp.Ordering.{Ordering}
use Rattle.std.specs.declared.cmp.Ordering.TheVariants.{Less, Equal, Greater}
use Rattle.std.specs.List.{AllByRecursion}
use Rattle.closure.specs.Closure.{IsIn}
use Rattle.keyed.specs.Keyed.{Ascends, put}
use Rattle.shop_defs.specs.declared.entity.Entity.TheVariants as E
use Rattle.shop_defs.specs.declared.key.Key.{Key}
use Rattle.shop_defs.specs.declared.row.Row.{Row}
use Rattle.shop_defs.specs.declared.words.FieldName.TheVariants as N
use Rattle.shop_defs.specs.Keys.{key_cmp}
use Rattle.shop_defs.specs.Rows.{IsInKeyOrder, row_key}
use Rattle.shop_defs.proofs.Keys.{key_cmp_total}
use Rattle.shop_operations.specs.References.{is_entity, is_id, is_live}
use Rattle.shop_rows.proofs.Same.{itself_equal}
use Rattle.row_fields.specs.Fields.{number_of, id_at}
use Rattle.cart_price.specs.Lent.{LineRows, PromotionRows}
use Rattle.cart_collect.specs.declared.ranks.Rank.{Rank}
use Rattle.cart_collect.specs.Ranks.{rank_cmp, in_order, line_rank, promotion_rank}
use Rattle.cart_collect.specs.Finding.{live_at, live_of, naming}
use Rattle.cart_collect.specs.Collected.{by_product, cart_data, languages_of, line_of, lines_of, promotion_of, promotions_of}
use Rattle.cart_collect.specs.Ordered.{StandByRank, AreInOrder}
use Rattle.cart_collect.proofs.Ranked.{rank_is, order-ascends, all-order, all-filter}

-- ---- part of rows in order

order-filter : (test : Row → Bool) (rows : List Row) → IsInKeyOrder rows → IsInKeyOrder (filter test rows)
order-filter test [] up = tt
order-filter test (row ∷ rows) up = by (order-filter test rows up.1) (test row) refl
  where
    by : IsInKeyOrder (filter test rows) → (b : Bool) → test row ≡ b → IsInKeyOrder (filter test (row ∷ rows))
    by more true e = rw e (all-filter (λ other. key_cmp row.key other.key ≡ Less) test rows up.0, more)
    by more false e = rw e more

module _ (rank : Row → Rank) (keyed : (row : Row) → (rank row).key ≡ row.key) where
  -- no other row has the rank
  abbrev IsApart : Row → Row → Type 0
  IsApart row other = rank_cmp (rank other) (rank row) ≢ Equal

  apart : (row other : Row) → key_cmp row.key other.key ≡ Less → IsApart row other
  apart row other less tie =
      let same : other.key ≡ row.key = sym (keyed other) ∙ (ap (λ (r : Rank). r.key) (rank_is (rank other) (rank row) tie) ∙ keyed row) in
      let equal : key_cmp row.key other.key ≡ Equal = subst (λ (k : Key). key_cmp row.key k ≡ Equal) (sym same) (itself_equal key_cmp key_cmp_total row.key) in
      absurd (cc)

  all_apart : (row : Row) (rows : List Row) → AllByRecursion (λ other. key_cmp row.key other.key ≡ Less) rows → AllByRecursion (IsApart row) rows
  all_apart row [] above = tt
  all_apart row (other ∷ rows) above = (apart row other above.0, all_apart row rows above.1)

  in_put : (rows : List Row) (row q : Row) → AllByRecursion (IsApart row) rows → IsIn q (put rank_cmp rank rows row) ↔ ((row ≡ q) ⊎ IsIn q rows)
  in_put [] row q all = (λ h. h, λ h. h)
  in_put (first ∷ rows) row q all = by (in_put rows row q all.1) (rank_cmp (rank first) (rank row)) refl
    where
      forth : (IsIn q (put rank_cmp rank rows row) → (row ≡ q) ⊎ IsIn q rows) → (first ≡ q) ⊎ IsIn q (put rank_cmp rank rows row) → (row ≡ q) ⊎ ((first ≡ q) ⊎ IsIn q rows)
      forth more (inl e) = inr (inl e)
      forth more (inr e) = by_two (more e)
        where
          by_two : (row ≡ q) ⊎ IsIn q rows → (row ≡ q) ⊎ ((first ≡ q) ⊎ IsIn q rows)
          by_two (inl f) = inl f
          by_two (inr f) = inr (inr f)

      back : ((row ≡ q) ⊎ IsIn q rows → IsIn q (put rank_cmp rank rows row)) → (row ≡ q) ⊎ ((first ≡ q) ⊎ IsIn q rows) → (first ≡ q) ⊎ IsIn q (put rank_cmp rank rows row)
      back more (inl e) = inr (more (inl e))
      back more (inr (inl e)) = inl e
      back more (inr (inr e)) = inr (more (inr e))

      by : (IsIn q (put rank_cmp rank rows row) ↔ ((row ≡ q) ⊎ IsIn q rows)) → (o : Ordering) → rank_cmp (rank first) (rank row) ≡ o → IsIn q (put rank_cmp rank (first ∷ rows) row) ↔ ((row ≡ q) ⊎ IsIn q (first ∷ rows))
      by more Less e = rw e (forth more.0, back more.1)
      by more Equal e = absurd (all.0 e)
      by more Greater e = rw e (λ h. h, λ h. h)

  in_all : (rows : List Row) → IsInKeyOrder rows → (q : Row) → IsIn q (in_order rank rows) ↔ IsIn q rows
  in_all [] up q = (λ h. h, λ h. h)
  in_all (row ∷ rows) up q = by (in_all rows up.1 q) (in_put (in_order rank rows) row q (all-order rank keyed (IsApart row) rows (all_apart row rows up.0)))
    where
      forth : (IsIn q (in_order rank rows) → IsIn q rows) → (row ≡ q) ⊎ IsIn q (in_order rank rows) → (row ≡ q) ⊎ IsIn q rows
      forth more (inl e) = inl e
      forth more (inr e) = inr (more e)

      by : (IsIn q (in_order rank rows) ↔ IsIn q rows) → (IsIn q (in_order rank (row ∷ rows)) ↔ ((row ≡ q) ⊎ IsIn q (in_order rank rows))) → IsIn q (in_order rank (row ∷ rows)) ↔ IsIn q (row ∷ rows)
      by more put = (λ h. forth more.0 (put.0 h), λ h. put.1 (turn h))
        where
          turn : (row ≡ q) ⊎ IsIn q rows → (row ≡ q) ⊎ IsIn q (in_order rank rows)
          turn (inl e) = inl e
          turn (inr e) = inr (more.1 e)

  stand : (rows : List Row) → IsInKeyOrder rows → StandByRank rank rows (in_order rank rows)
  stand rows up = record { order = order-ascends rank keyed rows; are = in_all rows up }

-- ---- the lines and the promotions of a cart

line_is : (rows : List Row) (languages : List ℕ) (line : Row) (product : Option Row) → (by_product rows languages line product).line ≡ line
line_is rows languages line None = refl
line_is rows languages line (Some product) = refl

lines_are : (rows : List Row) (languages : List ℕ) (lines : List Row) → map (λ line. line.line) (map (line_of rows languages) lines) ≡ lines
lines_are rows languages [] = refl
lines_are rows languages (line ∷ lines) =
    λ i. line_is rows languages line (live_at rows E.Product (id_at line (number_of E.CartLine N.Product))) i ∷ lines_are rows languages lines i

promotions_are : (rows promotions : List Row) → map (λ promotion. promotion.promotion) (map (promotion_of rows) promotions) ≡ promotions
promotions_are rows [] = refl
promotions_are rows (promotion ∷ promotions) = λ i. promotion ∷ promotions_are rows promotions i

pub in_order_data : (rows : List Row) (cart : Row) → IsInKeyOrder rows → AreInOrder rows (cart_data rows cart)
in_order_data rows cart up = record {
  lines = subst (λ (lines : List Row). StandByRank line_rank (naming rows E.CartLine N.Cart cart.key.id) lines) (sym (lines_are rows (languages_of rows cart) (lines_of rows cart.key.id)))
      (stand line_rank (λ row. refl) (naming rows E.CartLine N.Cart cart.key.id)
      (order-filter (λ row. is_entity row.key.entity E.CartLine && is_id (id_at row (number_of E.CartLine N.Cart)) cart.key.id) (filter is_live rows) (order-filter is_live rows up)));
  promotions = subst (λ (promotions : List Row). StandByRank promotion_rank (live_of rows E.Promotion) promotions) (sym (promotions_are rows (promotions_of rows)))
      (stand promotion_rank (λ row. refl) (live_of rows E.Promotion)
      (order-filter (λ row. is_entity row.key.entity E.Promotion) (filter is_live rows) (order-filter is_live rows up)));
}
