-- Texts that grow at their end.
use Rattle.std.proofs.Common.{◌≡◌, refl, sym, ◌∙◌, ap, ℕ, suc, ◌+◌, List, [], ◌∷◌, ◌++◌, ◌<◌, ◌≤◌, length, map, take, get_or, zero, arith}
use Rattle.std.specs.List.{flat_map}
use Rattle.std.specs.Fmt.{decimal}
use Rattle.std.proofs.Math.Seq.{take-suc}
use Rattle.std.proofs.lemmas.Grind.{flat_map-append}
use Rattle.std.proofs.lemmas.List.{append-nil, append_assoc, map-append}
use Rattle.pz_state.specs.pz_value.declared.value.Value.{Value}
use Rattle.pz_state.specs.Objects.{ObjectView, StoredObject}
use Rattle.pz_copy.specs.Parcels.{plain_objects}
use Rattle.pz_copy.proofs.Steps.{plain_length, length_take}
use Rattle.pz_copy.specs.ParcelText.{value_text, values_text, name_of, object_text, object_texts}

-- what follows the first of some texts, by the texts and by what they are of
pub followed : (mark : ℕ) (vs : List Value) → flat_map (λ u. mark ∷ u) (map value_text vs) ≡ flat_map (λ v. mark ∷ value_text v) vs
followed mark [] = refl
followed mark (v ∷ vs) = ap (λ l. (mark ∷ value_text v) ++ l) (followed mark vs)

pub flat_push : {A : Type 0} (f : A → List ℕ) (xs : List A) (x : A) → flat_map f (xs ++ x ∷ []) ≡ flat_map f xs ++ f x
flat_push f xs x = flat_map-append f xs (x ∷ []) ∙ ap (λ l. flat_map f xs ++ l) (append-nil (f x))

pub object_texts_push : (names : List (List ℕ)) (number : ℕ) (os : List ObjectView) (o : ObjectView) → object_texts names number (os ++ o ∷ []) ≡ object_texts names number os ++ object_text names (number + length os) o ∷ []
object_texts_push names number [] o = let same : number + 0 ≡ number = omega arith in rw same refl
object_texts_push names number (p ∷ ps) o =
    let same : number + suc (length ps) ≡ (number + 1) + length ps = omega arith in
    rw same (ap (λ l. object_text names number p ∷ l) (object_texts_push names (number + 1) ps o))

-- the first of some values, then the rest of them
pub values_done : (before mid out : List ℕ) (vs : List Value) (first : Value) (rest : List Value) → vs ≡ first ∷ rest → mid ≡ before ++ value_text first → out ≡ mid ++ flat_map (λ v. 44 ∷ value_text v) rest → out ≡ before ++ values_text vs
values_done before mid out vs first rest vs_are mid_is out_is =
    out_is
    ∙ ap (λ l. l ++ flat_map (λ v. 44 ∷ value_text v) rest) mid_is
    ∙ append_assoc before (value_text first) (flat_map (λ v. 44 ∷ value_text v) rest)
    ∙ ap (λ l. before ++ (value_text first ++ l)) (sym (followed 44 rest))
    ∙ ap (λ (l : List Value). before ++ values_text l) (sym vs_are)

joined : (a b d e f g h : List ℕ) → (((((a ++ b) ++ d) ++ e) ++ f) ++ g) ++ h ≡ a ++ (b ++ (d ++ (e ++ (f ++ (g ++ h)))))
joined a b d e f g h = simp append_assoc

-- the parts of an object one after the other
pub object_done : (before a b d e f g : List ℕ) (names : List (List ℕ)) (number : ℕ) (o : ObjectView) (name : List ℕ) (items : List Value) → a ≡ before ++ 35 ∷ decimal number → b ≡ a ++ 61 ∷ [] → d ≡ b ++ name → e ≡ d ++ 91 ∷ [] → f ≡ e ++ values_text items → g ≡ f ++ 93 ∷ [] → name ≡ name_of names o.class → items ≡ o.items → g ≡ before ++ object_text names number o
object_done before a b d e f g names number o name items a_is b_is d_is e_is f_is g_is name_is items_are =
    g_is
    ∙ ap (λ l. l ++ 93 ∷ []) (f_is ∙ ap (λ l. l ++ values_text items) (e_is ∙ ap (λ l. l ++ 91 ∷ []) (d_is ∙ ap (λ l. l ++ name) (b_is ∙ ap (λ l. l ++ 61 ∷ []) a_is))))
    ∙ joined before (35 ∷ decimal number) (61 ∷ []) name (91 ∷ []) (values_text items) (93 ∷ [])
    ∙ ap (λ (n : List ℕ). before ++ 35 ∷ (decimal number ++ 61 ∷ (n ++ 91 ∷ (values_text items ++ 93 ∷ [])))) name_is
    ∙ ap (λ (vs : List Value). before ++ 35 ∷ (decimal number ++ 61 ∷ (name_of names o.class ++ 91 ∷ (values_text vs ++ 93 ∷ [])))) items_are

-- one object further
pub objects_next : (names : List (List ℕ)) (start out mid new : List ℕ) (rest : List StoredObject) (i : ℕ) (o : StoredObject) → i < length rest → o ≡ get_or rest i o → out ≡ start ++ flat_map (λ u. 59 ∷ u) (object_texts names 1 (plain_objects (take i rest))) → mid ≡ out ++ 59 ∷ [] → new ≡ mid ++ object_text names (i + 1) o.object → new ≡ start ++ flat_map (λ u. 59 ∷ u) (object_texts names 1 (plain_objects (take (i + 1) rest)))
objects_next names start out mid new rest i o below is out_is mid_is new_is =
    let more : i + 1 ≡ suc i = omega arith in
    let taken : take (i + 1) rest ≡ take i rest ++ o ∷ [] = ap (λ n. take n rest) more ∙ take-suc rest i o below ∙ ap (λ (p : StoredObject). take i rest ++ p ∷ []) (sym is) in
    let plain : plain_objects (take (i + 1) rest) ≡ plain_objects (take i rest) ++ o.object ∷ [] = ap plain_objects taken ∙ map-append (λ (p : StoredObject). p.object) (take i rest) (o ∷ []) in
    let long : length (plain_objects (take i rest)) ≡ i = plain_length (take i rest) ∙ length_take i rest (omega (arith, below)) in
    let number : 1 + length (plain_objects (take i rest)) ≡ i + 1 = omega (arith, long) in
    let texts : object_texts names 1 (plain_objects (take (i + 1) rest)) ≡ object_texts names 1 (plain_objects (take i rest)) ++ object_text names (i + 1) o.object ∷ [] = ap (object_texts names 1) plain ∙ object_texts_push names 1 (plain_objects (take i rest)) o.object ∙ ap (λ n. object_texts names 1 (plain_objects (take i rest)) ++ object_text names n o.object ∷ []) number in
    let all : flat_map (λ u. 59 ∷ u) (object_texts names 1 (plain_objects (take (i + 1) rest))) ≡ flat_map (λ u. 59 ∷ u) (object_texts names 1 (plain_objects (take i rest))) ++ 59 ∷ object_text names (i + 1) o.object = ap (flat_map (λ u. 59 ∷ u)) texts ∙ flat_push (λ u. 59 ∷ u) (object_texts names 1 (plain_objects (take i rest))) (object_text names (i + 1) o.object) in
    new_is
    ∙ ap (λ l. l ++ object_text names (i + 1) o.object) (mid_is ∙ ap (λ l. l ++ 59 ∷ []) out_is)
    ∙ append_assoc (start ++ flat_map (λ u. 59 ∷ u) (object_texts names 1 (plain_objects (take i rest)))) (59 ∷ []) (object_text names (i + 1) o.object)
    ∙ append_assoc start (flat_map (λ u. 59 ∷ u) (object_texts names 1 (plain_objects (take i rest)))) (59 ∷ object_text names (i + 1) o.object)
    ∙ ap (λ l. start ++ l) (sym all)

pub values_whole : (n : ℕ) (vs : List Value) → length vs ≤ n → take n vs ≡ vs
values_whole zero [] h = refl
values_whole (suc n) [] h = refl
values_whole zero (v ∷ vs) h = absurd (omega arith)
values_whole (suc n) (v ∷ vs) h = ap (λ l. v ∷ l) (values_whole n vs (omega arith))
