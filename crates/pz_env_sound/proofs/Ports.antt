-- The ends that lines name, what lines say over them, and the ports of an environment.
use Rattle.std.proofs.Common.{◌≡◌, refl, sym, ap, ap₂, subst, ◌∙◌, ℕ, suc, ◌+◌, ◌<◌, ◌≤◌, ◌^◌, Bool, true, false, not, ◌&&◌, ◌==◌, List, [], ◌∷◌, drop, length, Some, slice_get, if◌then◌else◌, arith, lit≤, lt_of_lt_of_le, ◌⊎◌, inl, inr}
use Rattle.std.specs.List.{Contains, filter, position_or_len}
use Rattle.std.specs.Str.{bytes_eq}
use Rattle.std.proofs.lemmas.Bool.{and_parts, and_from, eqb-true, eq-eqb, both_ways}
use Rattle.std.proofs.lemmas.Fmt.{decimal_injective}
use Rattle.std.proofs.lemmas.Option.{slice_get_within}
use Rattle.std.proofs.lemmas.Slice.Eq.{bytes_eq-Decides}
use Rattle.pz_env_tree.specs.pz_env_script.Entries.{count_in}
use Rattle.pz_env_tree.specs.pz_env_rules.Environment.{Line}
use Rattle.pz_env_tree.specs.pz_env_rules.Ends.{is_same_end, first_mentions}
use Rattle.pz_env_tree.specs.Names.{end_number, port_name, port_of}
use Rattle.pz_env_tree.specs.EnvironmentClass.{is_sent, is_same_way, is_same_message, first_messages}
use Rattle.pz_env_grown.proofs.Elements.{none_in, in_cases}
use Rattle.pz_env_grown.proofs.Numbers.{some_same}
use Rattle.pz_env_sound.proofs.Distinct.{AreApart, firsts, firsts_apart, has_first, few_firsts, from_all}

-- the end of a line
abbrev pub EndKey : Type 0
EndKey = List ℕ × List ℕ

abbrev pub end_key : Line → EndKey
end_key x = (x.entry.instance, x.entry.port)

pub same_bytes : (a b : List ℕ) → bytes_eq a b ≡ true → a ≡ b
same_bytes a b = (bytes_eq-Decides a b).0

pub bytes_same : (a b : List ℕ) → a ≡ b → bytes_eq a b ≡ true
bytes_same a b = (bytes_eq-Decides a b).1

pub ends_tell : (x y : Line) → is_same_end x y ≡ true → end_key x ≡ end_key y
ends_tell x y is =
    let parts = and_parts (bytes_eq x.entry.instance y.entry.instance) (bytes_eq x.entry.port y.entry.port) is in
    ap₂ (λ (a b : List ℕ). (a, b)) (same_bytes x.entry.instance y.entry.instance parts.0) (same_bytes x.entry.port y.entry.port parts.1)

pub ends_told : (x y : Line) → end_key x ≡ end_key y → is_same_end x y ≡ true
ends_told x y is =
    and_from (bytes_eq x.entry.instance y.entry.instance) (bytes_eq x.entry.port y.entry.port)
    (bytes_same x.entry.instance y.entry.instance (ap (λ (k : EndKey). k.0) is)) (bytes_same x.entry.port y.entry.port (ap (λ (k : EndKey). k.1) is))

-- what a line says
pub record Said : Type 0 where
  pub end : EndKey
  pub out : Bool
  pub message : List ℕ
  pub count : ℕ

abbrev pub said : Line → Said
said x = record { end = end_key x; out = is_sent x.entry.transfer; message = x.entry.message; count = count_in x.entry.transfer }

same_way : (a b : Bool) → is_same_way a b ≡ true → a ≡ b
same_way true true is = refl
same_way true false is = absurd (both_ways false refl is)
same_way false true is = absurd (both_ways false refl is)
same_way false false is = refl

way_same : (a b : Bool) → a ≡ b → is_same_way a b ≡ true
way_same true true is = refl
way_same true false is = cc
way_same false true is = cc
way_same false false is = refl

pub said_tells : (x y : Line) → is_same_message x y ≡ true → said x ≡ said y
said_tells x y is =
    let first =
    and_parts (is_same_end x y) (is_same_way (is_sent x.entry.transfer) (is_sent y.entry.transfer) && (bytes_eq x.entry.message y.entry.message && count_in x.entry.transfer == count_in y.entry.transfer)) is in
    let second =
    and_parts (is_same_way (is_sent x.entry.transfer) (is_sent y.entry.transfer)) (bytes_eq x.entry.message y.entry.message && count_in x.entry.transfer == count_in y.entry.transfer) first.1 in
    let third = and_parts (bytes_eq x.entry.message y.entry.message) (count_in x.entry.transfer == count_in y.entry.transfer) second.1 in
    ap (λ (k : EndKey). record { end = k; out = is_sent x.entry.transfer; message = x.entry.message; count = count_in x.entry.transfer }) (ends_tell x y first.0)
    ∙ ap (λ (b : Bool). record { end = end_key y; out = b; message = x.entry.message; count = count_in x.entry.transfer }) (same_way (is_sent x.entry.transfer) (is_sent y.entry.transfer) second.0)
    ∙ ap (λ (n : List ℕ). record { end = end_key y; out = is_sent y.entry.transfer; message = n; count = count_in x.entry.transfer }) (same_bytes x.entry.message y.entry.message third.0)
    ∙ ap (λ (n : ℕ). record { end = end_key y; out = is_sent y.entry.transfer; message = y.entry.message; count = n }) (eqb-true (count_in x.entry.transfer) (count_in y.entry.transfer) third.1)

pub said_told : (x y : Line) → said x ≡ said y → is_same_message x y ≡ true
said_told x y is =
    and_from (is_same_end x y) _ (ends_told x y (ap (λ (k : Said). k.end) is))
    (and_from (is_same_way (is_sent x.entry.transfer) (is_sent y.entry.transfer)) _ (way_same (is_sent x.entry.transfer) (is_sent y.entry.transfer) (ap (λ (k : Said). k.out) is))
    (and_from (bytes_eq x.entry.message y.entry.message) (count_in x.entry.transfer == count_in y.entry.transfer) (bytes_same x.entry.message y.entry.message (ap (λ (k : Said). k.message) is))
    (eq-eqb (count_in x.entry.transfer) (count_in y.entry.transfer) (ap (λ (k : Said). k.count) is))))

mentions_are : (xs : List Line) → first_mentions xs ≡ firsts end_key is_same_end ends_tell ends_told xs
mentions_are [] = refl
mentions_are (x ∷ xs) = ap (λ (ys : List Line). x ∷ filter (λ y. not (is_same_end x y)) ys) (mentions_are xs)

messages_are : (xs : List Line) → first_messages xs ≡ firsts said is_same_message said_tells said_told xs
messages_are [] = refl
messages_are (x ∷ xs) = ap (λ (ys : List Line). x ∷ filter (λ y. not (is_same_message x y)) ys) (messages_are xs)

module _ (lines : List Line) where
  pub mentions_apart : AreApart end_key (first_mentions lines)
  mentions_apart = subst (AreApart end_key) (sym (mentions_are lines)) (firsts_apart end_key is_same_end ends_tell ends_told lines)

  pub messages_apart : AreApart said (first_messages lines)
  messages_apart = subst (AreApart said) (sym (messages_are lines)) (firsts_apart said is_same_message said_tells said_told lines)

  pub few_mentions : length (first_mentions lines) ≤ length lines
  few_mentions = subst (λ (ys : List Line). length ys ≤ length lines) (sym (mentions_are lines)) (few_firsts end_key is_same_end ends_tell ends_told lines)

  pub few_messages : length (first_messages lines) ≤ length lines
  few_messages = subst (λ (ys : List Line). length ys ≤ length lines) (sym (messages_are lines)) (few_firsts said is_same_message said_tells said_told lines)

  pub mention_in : (x : Line) → Contains (first_mentions lines) x → Contains lines x
  mention_in x has = from_all end_key is_same_end ends_tell ends_told lines x (subst (λ (ys : List Line). Contains ys x) (mentions_are lines) has)

  pub message_in : (x : Line) → Contains (first_messages lines) x → Contains lines x
  message_in x has = from_all said is_same_message said_tells said_told lines x (subst (λ (ys : List Line). Contains ys x) (messages_are lines) has)

  pub mentioned_first : (x : Line) → Contains lines x → (y : Line) × Contains (first_mentions lines) y × (end_key y ≡ end_key x)
  mentioned_first x has =
      let h = has_first end_key is_same_end ends_tell ends_told lines x has in
      (h.first, subst (λ (ys : List Line). Contains ys h.first) (sym (mentions_are lines)) h.there, h.alike)

  pub said_first : (x : Line) → Contains lines x → (y : Line) × Contains (first_messages lines) y × (said y ≡ said x)
  said_first x has =
      let h = has_first said is_same_message said_tells said_told lines x has in
      (h.first, subst (λ (ys : List Line). Contains ys h.first) (sym (messages_are lines)) h.there, h.alike)

-- what passes a test stands where the first one that does stands, or behind
position_there : {A : Type 0} (p : A → Bool) (xs : List A) (y : A) → Contains xs y → p y ≡ true
    → (z : A) × (slice_get xs (position_or_len p xs) ≡ Some z) × (p z ≡ true)
position_there p [] y has is = absurd (none_in y has)
position_there {A} p (x ∷ xs) y has is = by_test (p x) refl (position_there p xs y)
  where
    by_test : (b : Bool) → p x ≡ b → (Contains xs y → p y ≡ true → (z : A) × (slice_get xs (position_or_len p xs) ≡ Some z) × (p z ≡ true))
        → (z : A) × (slice_get (x ∷ xs) (if not b then 1 + position_or_len p xs else 0) ≡ Some z) × (p z ≡ true)
    by_test true passes rest = (x, refl, passes)
    by_test false fails rest = by (in_cases x xs y has)
      where
        number : 1 + position_or_len p xs ≡ suc (position_or_len p xs)
        number = omega arith

        by : (x ≡ y) ⊎ Contains xs y → (z : A) × (slice_get (x ∷ xs) (1 + position_or_len p xs) ≡ Some z) × (p z ≡ true)
        by (inl same) = absurd (both_ways (p x) fails (ap p same ∙ is))
        by (inr later) = let r = rest later is in (r.0, ap (slice_get (x ∷ xs)) number ∙ r.1, r.2)

module _ (lines : List Line) where
  pub number_same : (x y : Line) → end_key x ≡ end_key y → end_number lines x ≡ end_number lines y
  number_same x y same =
      ap (λ (k : EndKey). position_or_len (λ (z : Line). bytes_eq z.entry.instance k.0 && bytes_eq z.entry.port k.1) (first_mentions lines)) same

  numbered : (x : Line) → Contains lines x
      → (z : Line) × (slice_get (first_mentions lines) (end_number lines x) ≡ Some z) × (end_key z ≡ end_key x)
  numbered x has =
      let first = mentioned_first lines x has in
      let at = position_there (λ (z : Line). is_same_end z x) (first_mentions lines) first.0 first.1 (ends_told first.0 x first.2) in
      (at.0, at.1, ends_tell at.0 x at.2)

  pub number_low : (x : Line) → Contains lines x → end_number lines x < length lines
  number_low x has =
      let at = numbered x has in
      let low = slice_get_within (first_mentions lines) (end_number lines x) at.0 at.1 in
      let few = few_mentions lines in
      omega (arith, low, few)

  number_tells : (x y : Line) → Contains lines x → Contains lines y → end_number lines x ≡ end_number lines y → end_key x ≡ end_key y
  number_tells x y has_x has_y same =
      let a = numbered x has_x in
      let b = numbered y has_y in
      let one : a.0 ≡ b.0 = some_same a.0 b.0 (sym a.1 ∙ ap (slice_get (first_mentions lines)) same ∙ b.1) in
      sym a.2 ∙ ap end_key one ∙ b.2

  -- lines with one port have one end
  pub port_tells : length lines ≤ 100000 → (x y : Line) → Contains lines x → Contains lines y
      → (port_of lines x).name ≡ (port_of lines y).name → end_key x ≡ end_key y
  port_tells few x y has_x has_y same =
      number_tells x y has_x has_y
      (decimal_injective (end_number lines x) (end_number lines y) (short x has_x) (short y has_y) (ap (drop 1) same))
    where
      short : (z : Line) → Contains lines z → end_number lines z < 2 ^ 64
      short z has = lt_of_lt_of_le (lt_of_lt_of_le (number_low z has) few) (lit≤ tt)

  pub port_told : (x y : Line) → end_key x ≡ end_key y → (port_of lines x).name ≡ (port_of lines y).name
  port_told x y same = ap port_name (number_same x y same)
