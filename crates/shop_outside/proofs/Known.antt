-- What a read or a write does to known bytes, after calls that kept them.
use Rattle.std.proofs.Common.{◌≡◌, ℕ, List, ◌++◌, take, refl, sym, ◌∙◌, ap, arith}
use Rattle.std.proofs.lemmas.Grind.{common_steps}
use Rattle.std.specs.Prelude.{Option, Some, None, Result, Ok, Err}
use Rattle.std.specs.Io.KnownBytes.{Keeps, Appends, ReadConsumes, WriteAppends}

pub keeps_same : (a : Option (List ℕ)) → Keeps a a
keeps_same None = tt
keeps_same (Some xs) = refl

pub keeps_more : (a b c : Option (List ℕ)) → Keeps a b → Keeps b c → Keeps a c
keeps_more None b c k l = tt
keeps_more (Some xs) None c k l = absurd k
keeps_more (Some xs) (Some ys) None k l = absurd l
keeps_more (Some xs) (Some ys) (Some zs) k l = l ∙ k

pub keeps_reads : {E : Type 0} (a b c : Option (List ℕ)) (r : Result ℕ E) (into : List ℕ) → Keeps a b → ReadConsumes b c r into → ReadConsumes a c r into
keeps_reads a b c (Err e) into k reads = keeps_more a b c k reads
keeps_reads None b None (Ok n) into k reads = (tt, λ z some. tt)
keeps_reads None None (Some ys) (Ok n) into k reads = (tt, reads.1)
keeps_reads None (Some xs) (Some ys) (Ok n) into k reads = (tt, reads.1)
keeps_reads (Some xs) None c (Ok n) into k reads = absurd k
keeps_reads (Some xs) (Some ys) None (Ok n) into k reads = absurd reads.0
keeps_reads (Some xs) (Some ys) (Some zs) (Ok n) into k reads = (sym k ∙ reads.0, reads.1)

pub keeps_writes : {E : Type 0} (a b c : Option (List ℕ)) (r : Result ℕ E) (piece : List ℕ) → Keeps a b → WriteAppends b c r piece → WriteAppends a c r piece
keeps_writes a b c (Err e) piece k writes = keeps_more a b c k writes
keeps_writes None b c (Ok n) piece k writes = tt
keeps_writes (Some xs) None c (Ok n) piece k writes = absurd k
keeps_writes (Some xs) (Some ys) None (Ok n) piece k writes = absurd writes
keeps_writes (Some xs) (Some ys) (Some zs) (Ok n) piece k writes = writes ∙ ap (λ held. held ++ take n piece) k

-- a write that took none kept the bytes
pub none_kept : (a b : Option (List ℕ)) (n : ℕ) (piece : List ℕ) → n ≡ 0 → Appends a b (take n piece) → Keeps a b
none_kept None b n piece e writes = tt
none_kept (Some xs) None n piece e writes = absurd writes
none_kept (Some xs) (Some ys) n piece e writes = grind (arith, common_steps)

-- for a loop that reads
pub ruleset reading = (keeps_same, keeps_more, keeps_reads)

-- for a loop that writes
pub ruleset writing = (keeps_same, keeps_more, keeps_writes, none_kept)
