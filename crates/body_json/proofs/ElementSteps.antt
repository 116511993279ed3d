-- The elements of a batch, one after another.
use Rattle.std.proofs.Common.{◌≡◌, ℕ, ◌+◌, List, [], ◌∷◌, ◌++◌, length, Result, Ok, Err, refl, ap}
use Rattle.std.proofs.lemmas.List.{append_assoc, length-append}
use Rattle.std.specs.List.{AllByRecursion}
use Rattle.serde_json.specs.Data.{Data, Items, item}
use Rattle.shop_requests.specs.declared.raw.RawOp.{RawOp}
use Rattle.body_json.specs.Shapes.{and_then, element, elements}

-- operations that are read, and then those of what is left
abbrev pub after : List RawOp → Result (List RawOp) (List ℕ) → Result (List RawOp) (List ℕ)
after done more = and_then more (λ ops. Ok (done ++ ops))

pub after-none : (more : Result (List RawOp) (List ℕ)) → more ≡ after [] more
after-none (Ok ops) = refl
after-none (Err pointer) = refl

after-more : (done : List RawOp) (op : RawOp) (more : Result (List RawOp) (List ℕ)) → after done (and_then more (λ ops. Ok (op ∷ ops))) ≡ after (done ++ op ∷ []) more
after-more done op (Ok ops) = ap Ok (rw append_assoc refl)
after-more done op (Err pointer) = refl

-- one more is read
pub after-item : (done : List RawOp) (d : Data) (ds : Items) (op : RawOp) → element (length done) d ≡ Ok op
    → after done (elements (length done) (item d ds)) ≡ after (done ++ op ∷ []) (elements (length (done ++ op ∷ [])) ds)
after-item done d ds op e =
    let longer : length (done ++ op ∷ []) ≡ length done + 1 = length-append done (op ∷ []) in
    rw (e, longer) (after-more done op (elements (length done + 1) ds))

-- one is wrong
pub after-wrong : (done : List RawOp) (d : Data) (ds : Items) (pointer : List ℕ) → element (length done) d ≡ Err pointer → after done (elements (length done) (item d ds)) ≡ Err pointer
after-wrong done d ds pointer e = rw e refl

pub all-append : {X : Type 0} (P : X → Type 0) (xs : List X) (x : X) → AllByRecursion P xs → P x → AllByRecursion P (xs ++ x ∷ [])
all-append P [] x all last = (last, tt)
all-append P (y ∷ xs) x all last = (all.0, all-append P xs x all.1 last)
