-- Which mentions are of a row.
use Rattle.std.proofs.Common.{◌≡◌, ℕ, Bool, true, false, cond, ◌==◌, ◌&&◌, ◌||◌, List, [], ◌∷◌, Option, Some, None, refl, sym, ap, ◌∙◌}
use Rattle.std.specs.declared.cmp.Ordering.{Ordering}
use Rattle.std.specs.declared.cmp.Ordering.TheVariants.{Less, Equal, Greater}
use Rattle.std.specs.Ordering.{is_eq, nat_cmp, ordering_then}
use Rattle.std.specs.Option.{option_map}
use Rattle.std.specs.List.{list_any}
use Rattle.shop_defs.specs.declared.entity.Entity.{Entity}
use Rattle.shop_defs.specs.declared.key.Key.{Key}
use Rattle.shop_defs.specs.declared.row.Row.{Row}
use Rattle.shop_defs.specs.declared.table.Reference.{Reference}
use Rattle.shop_defs.specs.declared.table.TheConstants.{REFERENCES}
use Rattle.shop_defs.specs.Entities.{entity_number}
use Rattle.shop_defs.specs.Keys.{key_cmp}
use Rattle.shop_defs.specs.References.{acts_on_delete}
use Rattle.shop_defs.specs.Rows.{row_key, row_at}
use Rattle.shop_operations.specs.References.{named, is_id, refers_at}
use Rattle.shop_rows.specs.declared.topic.Topic.{Topic}
use Rattle.shop_rows.specs.declared.topic.Topic.TheVariants as T
use Rattle.shop_rows.specs.declared.topic.Mention.{Mention}
use Rattle.shop_rows.specs.Prints.{print_of}
use Rattle.shop_rows.specs.Topics.{is_of_row, topic_cmp, mention_cmp}
use Rattle.shop_rows.specs.Mentions.{topic_by, print_topic}
use Rattle.shop_rows.proofs.Same.{is_eq-nat_cmp, is_eq-then, key_is}

-- ---- one mention

-- the topic, if there is one, gives the row this mention
abbrev pub marks : Row → Option Topic → Mention → Bool
marks row None mention = false
marks row (Some topic) mention = is_eq (mention_cmp (record { topic = topic; key = row.key }) mention)

-- ---- the mentions by references

abbrev pub any_marks : List Reference → Row → Mention → Bool
any_marks table row mention = list_any (λ reference. marks row (topic_by reference row) mention) table

-- ---- the mentions of a row

abbrev pub row_marks : Row → Mention → Bool
row_marks row mention = marks row (print_topic row) mention || any_marks REFERENCES row mention

-- ---- they are those of its topics

-- one reference marks what it refers to
reference_marks : (reference : Reference) (row : Row) (version : ℕ) (of : Entity) (id : ℕ) (key : Key)
    → marks row (topic_by reference row) (record { topic = T.RefersTo version of id; key = key })
    ≡ (is_eq (key_cmp row.key key) && ((row.key.version == version) && (acts_on_delete reference && ((entity_number reference.of == entity_number of) && is_id (named reference row) id))))
reference_marks reference row version of id key = by (acts_on_delete reference) (named reference row)
  where
    four : (k v o n : Bool) → ((v && (o && n)) && k) ≡ (k && (v && (true && (o && n))))
    four true true o n = and_true (o && n)
      where
        and_true : (b : Bool) → (b && true) ≡ b
        and_true true = refl
        and_true false = refl
    four true false o n = refl
    four false v o n = and_false (v && (o && n))
      where
        and_false : (b : Bool) → (b && false) ≡ false
        and_false true = refl
        and_false false = refl

    both : (a b : Ordering) (p q : Bool) → is_eq a ≡ p → is_eq b ≡ q → is_eq (ordering_then a b) ≡ (p && q)
    both a b p q e f = is_eq-then a b ∙ (ap (λ (x : Bool). x && is_eq b) e ∙ ap (λ (y : Bool). p && y) f)

    no_third : (k v o : Bool) → false ≡ (k && (v && (true && (o && false))))
    no_third true true true = refl
    no_third true true false = refl
    no_third true false o = refl
    no_third false v o = refl

    no_act : (k v : Bool) → false ≡ (k && (v && false))
    no_act true true = refl
    no_act true false = refl
    no_act false v = refl

    by : (acts : Bool) (name : Option ℕ)
        → marks row (cond acts (option_map (λ n. T.RefersTo row.key.version reference.of n) name) None) (record { topic = T.RefersTo version of id; key = key })
        ≡ (is_eq (key_cmp row.key key) && ((row.key.version == version) && (acts && ((entity_number reference.of == entity_number of) && is_id name id))))
    by true None = no_third (is_eq (key_cmp row.key key)) (row.key.version == version) (entity_number reference.of == entity_number of)
    by true (Some n) =
        both (topic_cmp (T.RefersTo row.key.version reference.of n) (T.RefersTo version of id)) (key_cmp row.key key) ((row.key.version == version) && ((entity_number reference.of == entity_number of) && (n == id))) (is_eq (key_cmp row.key key))
        (both (nat_cmp row.key.version version) (ordering_then (nat_cmp (entity_number reference.of) (entity_number of)) (nat_cmp n id)) (row.key.version == version) ((entity_number reference.of == entity_number of) && (n == id))
        (is_eq-nat_cmp row.key.version version)
        (both (nat_cmp (entity_number reference.of) (entity_number of)) (nat_cmp n id) (entity_number reference.of == entity_number of) (n == id) (is_eq-nat_cmp (entity_number reference.of) (entity_number of)) (is_eq-nat_cmp n id))) refl
        ∙ four (is_eq (key_cmp row.key key)) (row.key.version == version) (entity_number reference.of == entity_number of) (n == id)
    by false name = no_act (is_eq (key_cmp row.key key)) (row.key.version == version)

-- the references mark what they refer to
any_marks_referred : (table : List Reference) (row : Row) (version : ℕ) (of : Entity) (id : ℕ) (key : Key)
    → any_marks table row (record { topic = T.RefersTo version of id; key = key }) ≡ (is_eq (key_cmp row.key key) && ((row.key.version == version) && refers_at table row (entity_number of) id))
unfolding refers_at
any_marks_referred [] row version of id key = none (is_eq (key_cmp row.key key)) (row.key.version == version)
  where
    none : (k v : Bool) → false ≡ (k && (v && false))
    none true true = refl
    none true false = refl
    none false v = refl
any_marks_referred (reference ∷ table) row version of id key =
    by (is_eq (key_cmp row.key key)) (row.key.version == version) _ _ (acts_on_delete reference && ((entity_number reference.of == entity_number of) && is_id (named reference row) id)) (refers_at table row (entity_number of) id)
    (reference_marks reference row version of id key) (any_marks_referred table row version of id key)
  where
    by : (k v a b c d : Bool) → a ≡ (k && (v && c)) → b ≡ (k && (v && d)) → (a || b) ≡ (k && (v && (c || d)))
    by true true a b c d e f = λ i. e i || f i
    by true false a b c d e f = λ i. e i || f i
    by false v a b c d e f = λ i. e i || f i

-- no reference marks a fingerprint
reference_marks_no_print : (reference : Reference) (row : Row) (print : ℕ) (key : Key) → marks row (topic_by reference row) (record { topic = T.HasPrint print; key = key }) ≡ false
reference_marks_no_print reference row print key = by (acts_on_delete reference) (named reference row)
  where
    by : (acts : Bool) (name : Option ℕ) → marks row (cond acts (option_map (λ n. T.RefersTo row.key.version reference.of n) name) None) (record { topic = T.HasPrint print; key = key }) ≡ false
    by true None = refl
    by true (Some n) = refl
    by false name = refl

any_marks_no_print : (table : List Reference) (row : Row) (print : ℕ) (key : Key) → any_marks table row (record { topic = T.HasPrint print; key = key }) ≡ false
any_marks_no_print [] row print key = refl
any_marks_no_print (reference ∷ table) row print key = λ i. reference_marks_no_print reference row print key i || any_marks_no_print table row print key i

-- the unique fields mark no reference
print_marks_no_reference : (row : Row) (print : Option ℕ) (version : ℕ) (of : Entity) (id : ℕ) (key : Key) → marks row (option_map (λ p. T.HasPrint p) print) (record { topic = T.RefersTo version of id; key = key }) ≡ false
print_marks_no_reference row None version of id key = refl
print_marks_no_reference row (Some p) version of id key = refl

-- they mark their fingerprint
print_marks : (row : Row) (found : Option ℕ) (print : ℕ) (key : Key) → marks row (option_map (λ p. T.HasPrint p) found) (record { topic = T.HasPrint print; key = key }) ≡ (is_eq (key_cmp row.key key) && is_id found print)
print_marks row None print key = none (is_eq (key_cmp row.key key))
  where
    none : (k : Bool) → false ≡ (k && false)
    none true = refl
    none false = refl
print_marks row (Some p) print key =
    is_eq-then (nat_cmp p print) (key_cmp row.key key)
    ∙ (ap (λ (b : Bool). b && is_eq (key_cmp row.key key)) (is_eq-nat_cmp p print) ∙ swap (p == print) (is_eq (key_cmp row.key key)))
  where
    swap : (a b : Bool) → (a && b) ≡ (b && a)
    swap true true = refl
    swap true false = refl
    swap false true = refl
    swap false false = refl

or_false : (b : Bool) → (b || false) ≡ b
or_false true = refl
or_false false = refl

-- a row marks what it is found by, under its key
pub row_marks_topics : (row : Row) (topic : Topic) (key : Key) → row_marks row (record { topic = topic; key = key }) ≡ is_of_row row (record { topic = topic; key = key })
row_marks_topics row (T.RefersTo version of id) key =
    (λ i. print_marks_no_reference row (print_of row) version of id key i || any_marks_referred REFERENCES row version of id key i)
row_marks_topics row (T.HasPrint print) key =
    (λ i. print_marks row (print_of row) print key i || any_marks_no_print REFERENCES row print key i)
    ∙ or_false (is_eq (key_cmp row.key key) && is_id (print_of row) print)

-- the row that is found has the key
pub found_key : (rows : List Row) (key : Key) (row : Row) → row_at rows key ≡ Some row → row.key ≡ key
found_key [] key row e = absurd (cc)
found_key (x ∷ rows) key row e = by (found_key rows key row) (key_cmp x.key key) refl
  where
    some_is : (x : Row) → Some x ≡ Some row → x ≡ row
    some_is x e = cc

    by : (row_at rows key ≡ Some row → row.key ≡ key) → (o : Ordering) → key_cmp x.key key ≡ o → row.key ≡ key
    by more Less f = more (sym (rw f refl) ∙ e)
    by more Equal f = let same : x ≡ row = some_is x (sym (rw f refl) ∙ e) in ap row_key (sym same) ∙ key_is x.key key f
    by more Greater f = more (sym (rw f refl) ∙ e)
