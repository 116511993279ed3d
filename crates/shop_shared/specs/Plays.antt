-- What each step tells its seat.
use Rattle.std.specs.Prelude.{◌≡◌, ℕ, Option, Some}
use Rattle.atomic_table.specs.Table.{Step, Me}
use Rattle.shop_core.specs.declared.answers.Entry.{Entry}
use Rattle.shop_shared.specs.declared.view.View.{View}
use Rattle.shop_shared.specs.Views.{master_of, commit_to, publish_to, fault_to, split_left}
use Rattle.shop_shared.specs.Rule.{IsKnown}

-- nothing changes, and the master is told what the rule says of it
abbrev pub checked : Step ℕ → Me ℕ View → ℕ → Me ℕ View → Type 0
checked s me found me' = (me' ≡ me) × IsKnown (master_of me.0)

-- the entry that was said is added
abbrev pub commits : Option Entry → Step ℕ → Me ℕ View → ℕ → Me ℕ View → Type 0
commits said s me found me' = (e : Entry) → said ≡ Some e → me' ≡ (commit_to me.0 e, me.1)

-- the front rises by what is added to the word
abbrev pub publishes : Step ℕ → Me ℕ View → ℕ → Me ℕ View → Type 0
publishes s me found me' = me' ≡ (publish_to me.0 s.first, me.1)

-- the count that was said is the master's
abbrev pub counts : ℕ → Step ℕ → Me ℕ View → ℕ → Me ℕ View → Type 0
counts said s me found me' = me' ≡ (fault_to me.0 said, me.1)

-- the master holds nobody
abbrev pub leaves : Step ℕ → Me ℕ View → ℕ → Me ℕ View → Type 0
leaves s me found me' = me' ≡ (split_left me.0, me.1)
