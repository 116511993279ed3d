-- A row that is put in place of one that is found by the same topics.
use Rattle.std.proofs.Common.{◌≡◌, Bool, true, false, ◌&&◌, ◌||◌, List, [], ◌∷◌, Option, Some, None, refl, sym, ap, ◌∙◌}
use Rattle.std.specs.Ordering.{is_eq}
use Rattle.std.specs.List.{list_all}
use Rattle.shop_defs.specs.declared.key.Key.{Key}
use Rattle.shop_defs.specs.declared.row.Row.{Row}
use Rattle.shop_defs.specs.declared.table.Reference.{Reference}
use Rattle.shop_defs.specs.declared.table.TheConstants.{REFERENCES}
use Rattle.shop_defs.specs.Keys.{key_cmp}
use Rattle.shop_defs.proofs.Keys.{key_cmp_total}
use Rattle.shop_rows.specs.declared.topic.Topic.{Topic}
use Rattle.shop_rows.specs.declared.topic.Mention.{Mention}
use Rattle.shop_rows.specs.Topics.{has_topic, mention_cmp}
use Rattle.shop_rows.specs.Mentions.{topic_by, print_topic, same_topic, have_same_topics}
use Rattle.shop_rows.proofs.Mentioning.{marks, any_marks, row_marks, row_marks_topics}
use Rattle.shop_rows.proofs.Same.{topic_is, is_equal, itself_equal}

and_first : (a b : Bool) → (a && b) ≡ true → a ≡ true
and_first true b e = refl
and_first false b e = absurd (cc)

and_second : (a b : Bool) → (a && b) ≡ true → b ≡ true
and_second true b e = e
and_second false b e = absurd (cc)

-- the same topic marks the same under one key
marks_alike : (old row : Row) (mention : Mention) → old.key ≡ row.key → (a b : Option Topic) → same_topic a b ≡ true → marks old a mention ≡ marks row b mention
marks_alike old row mention key None None e = refl
marks_alike old row mention key None (Some b) e = absurd (cc)
marks_alike old row mention key (Some a) None e = absurd (cc)
marks_alike old row mention key (Some a) (Some b) e = let topic : a ≡ b = topic_is a b (is_equal _ e) in λ i. is_eq (mention_cmp (record { topic = topic i; key = key i }) mention)

any_alike : (table : List Reference) (old row : Row) (mention : Mention) → old.key ≡ row.key → list_all (λ reference. same_topic (topic_by reference old) (topic_by reference row)) table ≡ true
    → any_marks table old mention ≡ any_marks table row mention
any_alike [] old row mention key e = refl
any_alike (reference ∷ table) old row mention key e =
    λ i. marks_alike old row mention key (topic_by reference old) (topic_by reference row) (and_first _ _ e) i || any_alike table old row mention key (and_second _ _ e) i

-- rows of one key with the same topics are found alike
pub topics_alike : (old row : Row) → old.key ≡ row.key → have_same_topics old row ≡ true → (topic : Topic) → has_topic old topic ≡ has_topic row topic
topics_alike old row key e topic =
    here old (ap is_eq (ap (λ (k : Key). key_cmp k row.key) key ∙ itself_equal key_cmp key_cmp_total row.key))
    ∙ ((λ i. marks_alike old row mention key (print_topic old) (print_topic row) (and_first _ _ e) i || any_alike REFERENCES old row mention key (and_second _ _ e) i)
    ∙ sym (here row (ap is_eq (itself_equal key_cmp key_cmp_total row.key))))
  where
    mention : Mention
    mention = record { topic = topic; key = row.key }

    here : (r : Row) → is_eq (key_cmp r.key row.key) ≡ true → has_topic r topic ≡ row_marks r (record { topic = topic; key = row.key })
    here r same = sym (row_marks_topics r topic row.key ∙ ap (λ (b : Bool). b && has_topic r topic) same)
