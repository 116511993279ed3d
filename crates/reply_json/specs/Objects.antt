-- JSON values of what a shop names and counts.
use Rattle.std.specs.Prelude.{ℕ, ℤ, List}
use Rattle.std.specs.List.{fold}
use Rattle.serde_json.specs.Data.{Data, number, string, object, unsigned, no_members, put}
use Rattle.serde_json.specs.Find.{of_integer}
use Rattle.shop_defs.specs.declared.key.Key.{Key}
use Rattle.shop_requests.specs.Ids.{id_text}
use Rattle.reply_json.specs.KeyTexts.{key_text}

-- an object with these members, in the order of the bytes of their names; of two with one name it has the later
abbrev pub object_of : List (List ℕ × Data) → Data
object_of parts = object (fold (λ members part. put part.0 part.1 members) no_members parts)

abbrev pub count_data : ℕ → Data
count_data count = number (unsigned count)

abbrev pub number_data : ℤ → Data
number_data amount = number (of_integer amount)

abbrev pub id_data : ℕ → Data
id_data id = string (id_text id)

abbrev pub key_data : Key → Data
key_data key = string (key_text key)
