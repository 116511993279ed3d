-- What a question is answered by what is told over the rows.
use Rattle.std.proofs.Common.{◌≡◌, ◌∙◌, ℕ, List, Result, Ok, Err, sym, ap, subst}
use Rattle.shop_defs.specs.declared.broken.Broken.{Broken}
use Rattle.shop_defs.specs.declared.row.Row.{Row}
use Rattle.shop_requests.specs.declared.query.Query.{Query}
use Rattle.product_meanings.specs.Direct.{Told, direct}
use Rattle.shop_core.specs.declared.answers.Reply.{Reply}
use Rattle.shop_core.specs.declared.answers.Reply.TheVariants as replies
use Rattle.shop_core.specs.Indexed.{said_reply, direct_reply, Tells}

tells_same : (reply meant : Reply) → reply ≡ meant → Tells reply meant
tells_same replies.NoMemory meant same = tt
tells_same reply meant same = same

-- what is told, or refused, over the rows, as the answer to the question
said_is : (rows : List Row) (now front : ℕ) (query : Query) (meant : Result Told Broken) → direct rows query ≡ meant → now ≡ front → said_reply now meant ≡ direct_reply rows front query
said_is rows now front query meant is same = ap (λ (n : ℕ). said_reply n meant) same ∙ ap (λ (m : Result Told Broken). said_reply front m) (sym is)

pub told_over : (rows : List Row) (now front : ℕ) (query : Query) (told : Told) (reply : Reply) → direct rows query ≡ Ok told → now ≡ front → Tells reply (said_reply now (Ok told))
    → Tells reply (direct_reply rows front query)
told_over rows now front query told reply is same tells = subst (λ (meant : Reply). Tells reply meant) (said_is rows now front query (Ok told) is same) tells

pub refused_over : (rows : List Row) (now front : ℕ) (query : Query) (broken : Broken) (reply : Reply) → direct rows query ≡ Err broken → now ≡ front → reply ≡ said_reply now (Err broken)
    → Tells reply (direct_reply rows front query)
refused_over rows now front query broken reply is same e = tells_same reply (direct_reply rows front query) (e ∙ said_is rows now front query (Err broken) is same)
