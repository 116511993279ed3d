-- What rounds settle at is the settled cart.
use Rattle.std.proofs.Common.{◌≡◌, ℕ, ℤ, List, Some, Result, Ok, Err, sym, ap, ◌∙◌, subst}
use Rattle.std.specs.Prelude.{MatchResult, IsErrAnd}
use Rattle.shop_defs.specs.declared.row.Row.{Row}
use Rattle.cart_price.specs.Lent.{CartRows}
use Rattle.cart_price.specs.declared.priced.PricedCart.{PricedCart}
use Rattle.cart_price.specs.declared.priced.Settled.{Settled}
use Rattle.cart_collect.specs.Collected.{collected}
use Rattle.cart_process.specs.Priced.{priced}
use Rattle.shop_rules.specs.Ranking.{Rule, matched, rules}
use Rattle.cart_loop.specs.declared.state.State.{State}
use Rattle.cart_loop.specs.declared.fault.CartRefused.{CartRefused}
use Rattle.cart_loop.specs.declared.fault.CartRefused.TheVariants as F
use Rattle.cart_loop.specs.Facts.{facts_of}
use Rattle.cart_loop.specs.Labels as naming
use Rattle.cart_loop.specs.Settling.{HasNotSettled, Settles}
use Rattle.cart_loop.specs.Settled.{round, round_in, IsRefused, IsSettled}

module _ (rows : List Row) (id : ℕ) (moment : ℤ) (lent : CartRows) (of : collected rows id ≡ Some lent) (all : List Rule) (are : all ≡ rules rows) (at : ℤ) (same : at ≡ moment) where
  refused_as : (fault : CartRefused) → HasNotSettled (round_in rows lent moment) fault → IsRefused rows id moment fault
  refused_as F.Unstable h = record { lent = lent; of = of; unstable = h }
  refused_as F.NoMemory h = tt
  refused_as F.NoSuchCart h = absurd h

  pub is_refused : (fault : CartRefused) → HasNotSettled (round lent all at) fault → IsRefused rows id moment fault
  is_refused fault h = refused_as fault (subst (λ (some : List Rule). HasNotSettled (round lent some moment) fault) are (subst (λ (t : ℤ). HasNotSettled (round lent all t) fault) same h))

  settled_as : (answer : State × ℕ) (called : List (List ℕ)) → Settles (round_in rows lent moment) answer → called ≡ naming.labels lent answer.0.cart
      → IsSettled rows id moment (record { cart = answer.0.cart; labels = called; rules = answer.0.rules; rounds = answer.1 })
  settled_as answer called s names =
      let stays : priced lent moment answer.0.rules ≡ answer.0.cart = ap (λ (state : State). state.cart) s.stays in
      record {
        lent = lent;
        of = of;
        turns = s.at;
        first = s.settled;
        prices = ap (λ (state : State). state.cart) s.state;
        holding = ap (λ (state : State). state.rules) s.state;
        count = s.rounds;
        names = names;
        stays = stays;
        hold = ap (λ (cart : PricedCart). matched (rules rows) (facts_of lent cart) moment) (sym stays) ∙ ap (λ (state : State). state.rules) s.stays;
      }

  pub is_settled : (answer : State × ℕ) (called : List (List ℕ)) → Settles (round lent all at) answer → called ≡ naming.labels lent answer.0.cart
      → IsSettled rows id moment (record { cart = answer.0.cart; labels = called; rules = answer.0.rules; rounds = answer.1 })
  is_settled answer called s names = settled_as answer called (subst (λ (some : List Rule). Settles (round lent some moment) answer) are (subst (λ (t : ℤ). Settles (round lent all t) answer) same s)) names

-- an error that is handed on
pub handed_on : {A E : Type 0} (P : A → Type 0) (Q : E → Type 0) (answer : Result A E) (fault : E) → IsErrAnd answer (λ e. e ≡ fault) → Q fault → MatchResult answer P Q
handed_on P Q (Ok a) fault is h = absurd is
handed_on P Q (Err e) fault is h = subst Q (sym is) h
