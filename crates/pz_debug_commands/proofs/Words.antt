-- Lines and their words.
use Rattle.std.proofs.Common.{◌≡◌, ◌≢◌, refl, sym, ap, subst, ◌∙◌, ℕ, Bool, true, false, not, ◌==◌, List, [], ◌∷◌, ◌++◌, eq-eqb}
use Rattle.std.specs.Prelude.{eqb}
use Rattle.std.specs.List.{slice_split, onto_first, list_all, join_with_byte}
use Rattle.std.proofs.lemmas.Bool.{ne_eqb}
use Rattle.std.proofs.lemmas.List.Splits.{slice_split-cons_yes, slice_split-cons_no}
use Rattle.pz_words.proofs.Outcomes.{both_true, true_both, false_true}
use Rattle.pz_debug_commands.specs.Lines.{Lacks}
use Rattle.pz_debug_commands.specs.Commands.{IsWord}
use Rattle.pz_debug_commands.specs.devices.Reading.{has_bytes, is_unbroken, is_word}

abbrev pub blank : ℕ → Bool
blank b = eqb b 32

abbrev pub EachLacks : ℕ → List (List ℕ) → Type 0
EachLacks c [] = Unit {0}
EachLacks c (w ∷ ws) = Lacks c w × EachLacks c ws

pub split_one : (a : List ℕ) → Lacks 32 a → slice_split blank a ≡ a ∷ []
split_one [] lacks = refl
split_one (b ∷ bs) lacks =
    slice_split-cons_no blank b bs (ne_eqb b 32 lacks.0) ∙ ap (λ (ws : List (List ℕ)). onto_first b ws) (split_one bs lacks.1)

pub split_more : (a r : List ℕ) → Lacks 32 a → slice_split blank (a ++ (32 ∷ r)) ≡ a ∷ slice_split blank r
split_more [] r lacks = refl
split_more (b ∷ bs) r lacks =
    slice_split-cons_no blank b (bs ++ (32 ∷ r)) (ne_eqb b 32 lacks.0) ∙ ap (λ (ws : List (List ℕ)). onto_first b ws) (split_more bs r lacks.1)

-- words in which no blank stands are found again
pub split_joined : (w : List ℕ) (ws : List (List ℕ)) → EachLacks 32 (w ∷ ws) → slice_split blank (join_with_byte 32 (w ∷ ws)) ≡ w ∷ ws
split_joined w [] each = split_one w each.0
split_joined w (v ∷ ws) each =
    split_more w (join_with_byte 32 (v ∷ ws)) each.0 ∙ ap (λ (l : List (List ℕ)). w ∷ l) (split_joined v ws each.1)

first_lacks : (c b : ℕ) (ws : List (List ℕ)) → b ≢ c → EachLacks c ws → EachLacks c (onto_first b ws)
first_lacks c b [] apart each = ((apart, tt), tt)
first_lacks c b (w ∷ ws) apart each = ((apart, each.0), each.1)

-- what stands between blanks has none
pub split_lacks : (text : List ℕ) → EachLacks 32 (slice_split blank text)
split_lacks [] = (tt, tt)
split_lacks (b ∷ bs) = by (blank b) refl (split_lacks bs)
  where
    by : (v : Bool) → blank b ≡ v → EachLacks 32 (slice_split blank bs) → EachLacks 32 (slice_split blank (b ∷ bs))
    by true e rest = subst (EachLacks 32) (sym (slice_split-cons_yes blank b bs e)) (tt, rest)
    by false e rest =
        let apart : b ≢ 32 = λ (same : b ≡ 32). false_true (sym e ∙ eq-eqb b 32 same) in
        subst (EachLacks 32) (sym (slice_split-cons_no blank b bs e)) (first_lacks 32 b (slice_split blank bs) apart rest)

-- Single words

pub lacks_from : (c : ℕ) (text : List ℕ) → list_all (λ b. not (b == c)) text ≡ true → Lacks c text
lacks_from c [] e = tt
lacks_from c (b ∷ bs) e =
    let parts = both_true (not (b == c)) (list_all (λ b. not (b == c)) bs) e in
    (λ (same : b ≡ c). false_true (sym (ap not (eq-eqb b c same)) ∙ parts.0), lacks_from c bs parts.1)

lacks_unbroken : (text : List ℕ) → Lacks 10 text → is_unbroken text ≡ true
lacks_unbroken [] lacks = refl
lacks_unbroken (b ∷ bs) lacks = true_both (not (b == 10)) (is_unbroken bs) (ap not (ne_eqb b 10 lacks.0)) (lacks_unbroken bs lacks.1)

some_bytes : (text : List ℕ) → has_bytes text ≡ true → text ≢ []
some_bytes [] e none = false_true e
some_bytes (b ∷ bs) e none = cc

bytes_there : (text : List ℕ) → text ≢ [] → has_bytes text ≡ true
bytes_there [] some = absurd (some refl)
bytes_there (b ∷ bs) some = refl

pub word_is : (text : List ℕ) → Lacks 32 text → is_word text ≡ true → IsWord text
word_is text lacks e =
    let parts = both_true (has_bytes text) (is_unbroken text) e in
    record { some = some_bytes text parts.0; joined = lacks; unbroken = lacks_from 10 text parts.1 }

pub is_word_is : (text : List ℕ) → IsWord text → is_word text ≡ true
is_word_is text is = true_both (has_bytes text) (is_unbroken text) (bytes_there text is.some) (lacks_unbroken text is.unbroken)
