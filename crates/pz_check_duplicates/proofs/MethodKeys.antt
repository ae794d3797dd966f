-- Methods by their keys.
use Rattle.std.proofs.Common.{◌≡◌, refl, ap, ◌∙◌, ℕ, Bool, true, false, ◌&&◌, nat_eq, List, map, Bor}
use Rattle.std.specs.Str.{bytes_eq}
use Rattle.pz_classes.specs.pz_syntax.declared.tokens.Pos.{Pos}
use Rattle.pz_classes.specs.pz_classes_rules.RepeatRules.{Heading, same_heading}
use Rattle.pz_check_duplicates.specs.declared.methods.MethodKey.{MethodKey}
use Rattle.pz_check_duplicates.specs.declared.methods.MethodKey.TheVariants as key
use Rattle.pz_check_duplicates.specs.declared.places.Thing.{Thing}
use Rattle.pz_check_duplicates.specs.devices.Again.{same_key, thing_place, repeats}
use Rattle.pz_check_duplicates.specs.devices.Headings.{heading_of, keyed_heading, heading_place}
use Rattle.pz_check_duplicates.proofs.Repeated.{repeats_seen}

-- the equality of keys says this
pub record Tells (eq : MethodKey → MethodKey → Bool) : Type 0 where
  pub datas : (x : Bor (List ℕ)) (i : ℕ) (y : Bor (List ℕ)) (j : ℕ) → eq (key.Data x i) (key.Data y j) ≡ (bytes_eq x.now y.now && nat_eq i j)
  pub processes : (x : Bor (List ℕ)) (i o : ℕ) (y : Bor (List ℕ)) (j p : ℕ) → eq (key.Process x i o) (key.Process y j p) ≡ (bytes_eq x.now y.now && (nat_eq i j && nat_eq o p))
  pub data_process : (x : Bor (List ℕ)) (i : ℕ) (y : Bor (List ℕ)) (j p : ℕ) → eq (key.Data x i) (key.Process y j p) ≡ false
  pub process_data : (x : Bor (List ℕ)) (i o : ℕ) (y : Bor (List ℕ)) (j : ℕ) → eq (key.Process x i o) (key.Data y j) ≡ false

turned : (a b : Bool) → (a && b) ≡ (b && a)
turned true true = refl
turned true false = refl
turned false true = refl
turned false false = refl

keys_alike : (eq : MethodKey → MethodKey → Bool) → Tells eq → (p q : Pos) (x y : MethodKey) → eq x y ≡ same_heading (keyed_heading p x) (keyed_heading q y)
keys_alike eq t p q (key.Data x i) (key.Data y j) = t.datas x i y j ∙ turned (bytes_eq x.now y.now) (nat_eq i j)
keys_alike eq t p q (key.Data x i) (key.Process y j n) = t.data_process x i y j n
keys_alike eq t p q (key.Process x i o) (key.Data y j) = t.process_data x i o y j
keys_alike eq t p q (key.Process x i o) (key.Process y j n) = t.processes x i o y j n ∙ turned (bytes_eq x.now y.now) (nat_eq i j && nat_eq o n)

key_stands : (p : Pos) (x : MethodKey) → p ≡ heading_place (keyed_heading p x)
key_stands p (key.Data x i) = refl
key_stands p (key.Process x i o) = refl

-- things that stand for methods repeat where these do
pub methods_repeat : (eq : MethodKey → MethodKey → Bool) → Tells eq → (rule : ℕ) (things : List (Thing MethodKey)) (headings : List Heading)
    → map heading_of things ≡ headings → repeats (same_key eq) thing_place rule things ≡ repeats same_heading heading_place rule headings
methods_repeat eq t rule things headings same =
    repeats_seen (same_key eq) thing_place heading_of same_heading heading_place (λ x y. keys_alike eq t x.place y.place x.key y.key) (λ x. key_stands x.place x.key) rule things
    ∙ ap (repeats same_heading heading_place rule) same
