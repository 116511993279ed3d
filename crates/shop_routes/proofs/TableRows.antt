-- The rows of a router that is filled with lines are these lines.
use Rattle.std.proofs.Common.{◌≡◌, ◌⊎◌, inl, inr, ℕ, List, [], ◌∷◌, Result, Ok, Err, refl}
use Rattle.std.proofs.lemmas.Bool.{cases_Bool}
use Rattle.matchit.specs.Rows.{RowsOf, comes_before}
use Rattle.matchit.specs.Order.{placed}
use Rattle.matchit.specs.Route.{Scan, parse_route}
use Rattle.matchit.specs.Router.{RouteOf, route_from}
use Rattle.matchit.specs.declared.error.InsertError.{InsertError}
use Rattle.shop_routes.specs.declared.endpoint.Asked.{Asked}
use Rattle.shop_routes.specs.Filling.{router_of, with_line, with_scan}
use Rattle.shop_routes.specs.Paths.{Line, asked_by}
use Rattle.shop_routes.proofs.Seeking.{Has}

abbrev pub Rows : Type 0
Rows = RowsOf (RouteOf Asked)

-- the line is among these
abbrev pub Among : Line → List Line → Type 0
Among line [] = ⊥
Among line (l ∷ ls) = (line ≡ l) ⊎ Among line ls

-- the row of a line
pub record IsRowOf (line : Line) (s : Scan) (t : List ℕ) (r : RouteOf Asked) : Type 0 where
  pub scan : parse_route line.1 ≡ Ok s
  pub pattern : t ≡ s.pattern
  pub route : r ≡ route_from s (asked_by line)

module _ {K : Type 0} where
  placed_has : (new : List ℕ × K) (rs : RowsOf K) (t : List ℕ) (e : K) → Has t e (placed new rs) → ((t ≡ new.0) × (e ≡ new.1)) ⊎ Has t e rs
  placed_has new [] t e h = h
  placed_has new (x ∷ rs) t e h = elim (cases_Bool (comes_before new.0 x.0)) [
    | inl here ↦ rw here at h
    | inr later ↦
        let k : ((t ≡ x.0) × (e ≡ x.1)) ⊎ Has t e (placed new rs) = rw later at h in
        elim k [
          | inl first ↦ inr (inl first)
          | inr more ↦ elim (placed_has new rs t e more) [ inl is ↦ inl is | inr old ↦ inr (inr old) ]
        ]
  ]

  has_new : (new : List ℕ × K) (rs : RowsOf K) → Has new.0 new.1 (placed new rs)
  has_new new [] = inl (refl, refl)
  has_new new (x ∷ rs) = elim (cases_Bool (comes_before new.0 x.0)) [ inl here ↦ rw here (inl (refl, refl)) | inr later ↦ rw later (inr (has_new new rs)) ]

  has_old : (new : List ℕ × K) (rs : RowsOf K) (t : List ℕ) (e : K) → Has t e rs → Has t e (placed new rs)
  has_old new [] t e h = absurd h
  has_old new (x ∷ rs) t e (inl first) = elim (cases_Bool (comes_before new.0 x.0)) [ inl here ↦ rw here (inr (inl first)) | inr later ↦ rw later (inl first) ]
  has_old new (x ∷ rs) t e (inr more) = elim (cases_Bool (comes_before new.0 x.0)) [ inl here ↦ rw here (inr (inr more)) | inr later ↦ rw later (inr (has_old new rs t e more)) ]

-- a row of a router is one that was there, or that of a line
pub router_has : (ls : List Line) (rs : Rows) (t : List ℕ) (r : RouteOf Asked) → Has t r (router_of rs ls) → Has t r rs ⊎ ((line : Line) × (s : Scan) × Among line ls × IsRowOf line s t r)
router_has [] rs t r h = inl h
router_has (l ∷ ls) rs t r h = elim (router_has ls (with_line rs l) t r h) [
  | inl new ↦ go (parse_route l.1) refl new
  | inr later ↦ inr (later.0, later.1, inr later.2, later.3)
]
  where
    go : (scanned : Result Scan InsertError) → parse_route l.1 ≡ scanned → Has t r (with_scan scanned (asked_by l) rs) → Has t r rs ⊎ ((line : Line) × (s : Scan) × Among line (l ∷ ls) × IsRowOf line s t r)
    go (Ok s) is new = elim (placed_has (s.pattern, route_from s (asked_by l)) rs t r new) [
      | inl row ↦ inr (l, s, inl refl, record { scan = is; pattern = row.0; route = row.1 })
      | inr old ↦ inl old
    ]
    go (Err e) is old = inl old

keeps : (ls : List Line) (rs : Rows) (t : List ℕ) (r : RouteOf Asked) → Has t r rs → Has t r (router_of rs ls)
keeps [] rs t r h = h
keeps (l ∷ ls) rs t r h = keeps ls (with_line rs l) t r (go (parse_route l.1))
  where
    go : (scanned : Result Scan InsertError) → Has t r (with_scan scanned (asked_by l) rs)
    go (Ok s) = has_old (s.pattern, route_from s (asked_by l)) rs t r h
    go (Err e) = h

-- the row of each line is there
pub has_row : (ls : List Line) (rs : Rows) (line : Line) (s : Scan) → Among line ls → parse_route line.1 ≡ Ok s → Has s.pattern (route_from s (asked_by line)) (router_of rs ls)
has_row [] rs line s among scan = absurd among
has_row (l ∷ ls) rs line s (inl is) scan =
    keeps ls (with_line rs l) s.pattern (route_from s (asked_by line)) (rw (← is, scan) (has_new (s.pattern, route_from s (asked_by line)) rs))
has_row (l ∷ ls) rs line s (inr later) scan = has_row ls (with_line rs l) line s later scan
