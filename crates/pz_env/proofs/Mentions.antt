-- The ends that lines name and what they say, for the first time.
use Rattle.std.proofs.Common.{◌≡◌, refl, sym, ap, ap₂, ◌∙◌, ℕ, suc, ◌+◌, ◌<◌, ◌≤◌, Bool, true, false, ◌&&◌, ◌==◌, not, List, [], ◌∷◌, map, drop, length, get_or}
use Rattle.std.specs.Prelude.{if◌then◌else◌}
use Rattle.std.specs.Bool.{beq}
use Rattle.std.specs.List.{filter, position_or_len}
use Rattle.std.specs.Str.{bytes_eq}
use Rattle.std.proofs.lemmas.List.{drop_all}
use Rattle.std.proofs.lemmas.Bool.{eqb-true, eq-eqb}
use Rattle.std.proofs.lemmas.Slice.Eq.{bytes_eq-Decides}
use Rattle.pz_env_tree.specs.pz_env_script.declared.entry.Entry.{Entry}
use Rattle.pz_env_tree.specs.pz_env_script.Entries.{count_in}
use Rattle.pz_env_tree.specs.pz_env_rules.Environment.{Line, lines_from}
use Rattle.pz_env_tree.specs.pz_env_rules.Ends.{is_same_end, first_mentions}
use Rattle.pz_env_tree.specs.Names.{end_number}
use Rattle.pz_env_tree.specs.EnvironmentClass.{is_sent, is_same_way, is_same_message, first_messages}
use Rattle.pz_env.specs.devices.Ends.{Named, is_named}
use Rattle.pz_env.specs.devices.Said.{SaidSo, is_said}
use Rattle.pz_env.specs.devices.Firsts.{firsts}
use Rattle.pz_env.specs.devices.Rest.{rest_from, end_of, said_of}
use Rattle.pz_env.proofs.Sets.{one_more, same_named}
use Rattle.pz_env.proofs.Firsts as found

-- Lines that are left

pub rest_step : (es : List Entry) (e : Entry) (i j : ℕ) → i < length es → e ≡ get_or es i e → j ≡ suc i → rest_from i es ≡ record { number = suc i; entry = e } ∷ rest_from j es
rest_step es e i j within here after =
    ap (lines_from (suc i)) (one_more es e i j within here after)
    ∙ ap (λ (k : ℕ). record { number = suc i; entry = e } ∷ lines_from (suc k) (drop j es)) (sym after)

pub rest_end : (es : List Entry) (i : ℕ) → length es ≤ i → rest_from i es ≡ []
rest_end es i past = ap (lines_from (suc i)) (drop_all i es past)

-- Ends and what is said are compared in both ways alike

turned : (xs ys : List ℕ) → bytes_eq xs ys ≡ true → bytes_eq ys xs ≡ true
turned xs ys e = (bytes_eq-Decides ys xs).1 (sym ((bytes_eq-Decides xs ys).0 e))

pub bytes_turned : (xs ys : List ℕ) → bytes_eq xs ys ≡ bytes_eq ys xs
bytes_turned xs ys = by (bytes_eq xs ys) (bytes_eq ys xs) refl refl
  where
    by : (a b : Bool) → bytes_eq xs ys ≡ a → bytes_eq ys xs ≡ b → bytes_eq xs ys ≡ bytes_eq ys xs
    by true true e f = e ∙ sym f
    by false false e f = e ∙ sym f
    by true false e f = e ∙ sym (turned xs ys e)
    by false true e f = turned ys xs f ∙ sym f

pub ends_agree : (x y : Line) → is_same_end x y ≡ is_named (end_of y) (end_of x)
ends_agree x y = ap₂ (λ a b. a && b) (bytes_turned x.entry.instance y.entry.instance) (bytes_turned x.entry.port y.entry.port)

way_turned : (a b : Bool) → is_same_way a b ≡ beq b a
way_turned true true = refl
way_turned true false = refl
way_turned false true = refl
way_turned false false = refl

reordered : (p q w m n : Bool) → ((p && q) && (w && (m && n))) ≡ (p && (q && (m && (w && n))))
reordered false q w m n = refl
reordered true false w m n = refl
reordered true true true true n = refl
reordered true true true false n = refl
reordered true true false true n = refl
reordered true true false false n = refl

same_count : (a b : ℕ) → (a == b) ≡ true → a ≡ b
same_count a b e = eqb-true a b e

counts_turned : (a b : ℕ) → (a == b) ≡ (b == a)
counts_turned a b = by (a == b) (b == a) refl refl
  where
    by : (p q : Bool) → (a == b) ≡ p → (b == a) ≡ q → (a == b) ≡ (b == a)
    by true true e f = e ∙ sym f
    by false false e f = e ∙ sym f
    by true false e f = e ∙ sym (eq-eqb b a (sym (same_count a b e)))
    by false true e f = eq-eqb a b (sym (same_count b a f)) ∙ sym f

pub said_agree : (x y : Line) → is_same_message x y ≡ is_said (said_of y) (said_of x)
said_agree x y =
    reordered (bytes_eq x.entry.instance y.entry.instance) (bytes_eq x.entry.port y.entry.port) (is_same_way (is_sent x.entry.transfer) (is_sent y.entry.transfer)) (bytes_eq x.entry.message y.entry.message) (count_in x.entry.transfer == count_in y.entry.transfer)
    ∙ ap₂ (λ a b. a && b) (bytes_turned x.entry.instance y.entry.instance)
    (ap₂ (λ a b. a && b) (bytes_turned x.entry.port y.entry.port)
    (ap₂ (λ a b. a && b) (bytes_turned x.entry.message y.entry.message)
    (ap₂ (λ a b. a && b) (way_turned (is_sent x.entry.transfer) (is_sent y.entry.transfer)) (counts_turned (count_in x.entry.transfer) (count_in y.entry.transfer)))))

-- What is the same

same_way : (a b : Bool) → beq a b ≡ true → a ≡ b
same_way true true e = refl
same_way true false e = absurd cc
same_way false true e = absurd cc
same_way false false e = refl

first_holds : (a b : Bool) → a && b ≡ true → a ≡ true
first_holds true b e = refl
first_holds false b e = absurd cc

second_holds : (a b : Bool) → a && b ≡ true → b ≡ true
second_holds true b e = e
second_holds false b e = absurd cc

same_bytes : (xs ys : List ℕ) → bytes_eq xs ys ≡ true → xs ≡ ys
same_bytes xs ys e = (bytes_eq-Decides xs ys).0 e

pub same_said : (x y : SaidSo) → is_said x y ≡ true → x ≡ y
same_said x y e =
    let i : bytes_eq x.instance y.instance ≡ true = first_holds _ _ e in
    let rest : (bytes_eq x.port y.port && (bytes_eq x.message y.message && (beq x.out y.out && x.count == y.count))) ≡ true = second_holds (bytes_eq x.instance y.instance) _ e in
    let p : bytes_eq x.port y.port ≡ true = first_holds _ _ rest in
    let more : (bytes_eq x.message y.message && (beq x.out y.out && x.count == y.count)) ≡ true = second_holds (bytes_eq x.port y.port) _ rest in
    let m : bytes_eq x.message y.message ≡ true = first_holds _ _ more in
    let last : (beq x.out y.out && x.count == y.count) ≡ true = second_holds (bytes_eq x.message y.message) _ more in
    ap (λ (n : List ℕ). record { instance = n; port = x.port; message = x.message; out = x.out; count = x.count }) (same_bytes x.instance y.instance i)
    ∙ ap (λ (n : List ℕ). record { instance = y.instance; port = n; message = x.message; out = x.out; count = x.count }) (same_bytes x.port y.port p)
    ∙ ap (λ (n : List ℕ). record { instance = y.instance; port = y.port; message = n; out = x.out; count = x.count }) (same_bytes x.message y.message m)
    ∙ ap (λ (b : Bool). record { instance = y.instance; port = y.port; message = y.message; out = b; count = x.count }) (same_way x.out y.out (first_holds _ _ last))
    ∙ ap (λ (n : ℕ). record { instance = y.instance; port = y.port; message = y.message; out = y.out; count = n }) (same_count x.count y.count (second_holds (beq x.out y.out) _ last))

pub is_itself : (k : Named) → is_named k k ≡ true
is_itself k = ap₂ (λ a b. a && b) ((bytes_eq-Decides k.instance k.instance).1 refl) ((bytes_eq-Decides k.port k.port).1 refl)

-- The first ones

pub mentions_are : (xs : List Line) → first_mentions xs ≡ firsts is_same_end xs
mentions_are [] = refl
mentions_are (x ∷ xs) = ap (λ (ys : List Line). x ∷ filter (λ y. not (is_same_end x y)) ys) (mentions_are xs)

pub messages_are : (xs : List Line) → first_messages xs ≡ firsts is_same_message xs
messages_are [] = refl
messages_are (x ∷ xs) = ap (λ (ys : List Line). x ∷ filter (λ y. not (is_same_message x y)) ys) (messages_are xs)

position_by : {X K : Type 0} (key : X → K) (f : X → Bool) (g : K → Bool) → ((x : X) → f x ≡ g (key x)) → (xs : List X) → position_or_len f xs ≡ position_or_len g (map key xs)
position_by key f g same [] = refl
position_by key f g same (x ∷ xs) = ap₂ (λ (a : Bool) (b : ℕ). if not a then 1 + b else 0) (same x) (position_by key f g same xs)

-- the number of an end among those mentioned before is its number
pub number_is : (lines : List Line) (seen : List Named) (x : Line) (rest : List Line) → found.IsOnTheWay is_named same_named end_of is_same_end ends_agree lines seen (x ∷ rest)
    → position_or_len (is_named (end_of x)) seen ≡ end_number lines x
number_is lines seen x rest on =
    found.is_number is_named same_named end_of is_same_end ends_agree lines is_itself seen x rest on
    ∙ sym (position_by end_of (λ y. is_same_end y x) (is_named (end_of x)) (λ y. ends_agree y x) (firsts is_same_end lines))
    ∙ ap (position_or_len (λ y. is_same_end y x)) (sym (mentions_are lines))
