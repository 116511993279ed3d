-- The bodies that are always the same.
use Rattle.std.proofs.Common.{◌≡◌, refl}
use Rattle.std.specs.Prelude.{codes, Result, Ok, Err, IfOk}
use Rattle.shop_core.specs.declared.answers.Reply.TheVariants as replies
use Rattle.json.specs.Print.{escape_byte}
use Rattle.shop_json.specs.Replying.{reply_body}

pub store_failed_body : reply_body replies.StoreFailed ≡ codes "{\"error\":\"store_failed\"}"
unfolding reply_body escape_byte
store_failed_body = refl

pub no_memory_body : reply_body replies.NoMemory ≡ codes "{\"error\":\"no_memory\"}"
unfolding reply_body escape_byte
no_memory_body = refl

pub ok_map : {X E : Type 0} {P Q : X → Type 0} (r : Result X E) → ((x : X) → P x → Q x) → IfOk r P → IfOk r Q
ok_map (Ok x) f p = f x p
ok_map (Err e) f p = tt
