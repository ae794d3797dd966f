-- A list that is read item by item, beside a loop that counts its turns.
use Rattle.std.proofs.Common.{◌≡◌, ℕ, suc, Bool, true, false, List, [], ◌∷◌, ◌++◌, Ok, Err, refl, ap, sym, ◌∙◌, append_assoc, map}
use Rattle.std.proofs.lemmas.List.{map-append}
use Rattle.pz_parser_cursor.specs.declared.ahead.Next.{Next}
use Rattle.pz_parser_cursor.specs.devices.Input.{Tokens, after, sees}
use Rattle.pz_parser_cursor.specs.devices.Device.{Outcome, Parser, and_then, past}
use Rattle.pz_parser_cursor.specs.devices.Lists.{with_front, tail_of, repeat}

pub with_front_more : {A : Type 0} (front : List A) (x : A) (o : Outcome (List A)) → with_front front (and_then o (λ xs i. Ok (x ∷ xs, i))) ≡ with_front (front ++ x ∷ []) o
with_front_more front x (Ok p) = ap (λ l. Ok (l, p.1)) (sym (append_assoc front (x ∷ []) p.0))
with_front_more front x (Err e) = refl

pub past_is : (s : Next) (i : Tokens) → sees s i ≡ true → past s i ≡ after i
unfolding past
past_is s i h = rw h refl

pub past_not : (s : Next) (i : Tokens) → sees s i ≡ false → past s i ≡ i
unfolding past
past_not s i h = rw h refl

pub tail_more : {A : Type 0} (item : Parser A) (sep : Next) (n : ℕ) (front : List A) (i j : Tokens) (x : A) → sees sep i ≡ true → item (after i) ≡ Ok (x, j)
    → with_front front (tail_of item sep (suc n) i) ≡ with_front (front ++ x ∷ []) (tail_of item sep n j)
unfolding tail_of past
tail_more item sep n front i j x s r = rw (s, r) (with_front_more front x (tail_of item sep n j))

pub repeat_more : {A : Type 0} (begins : Tokens → Bool) (item : Parser A) (n : ℕ) (front : List A) (i j : Tokens) (x : A) → begins i ≡ true → item i ≡ Ok (x, j)
    → with_front front (repeat begins item (suc n) i) ≡ with_front (front ++ x ∷ []) (repeat begins item n j)
unfolding repeat
repeat_more begins item n front i j x s r = rw (s, r) (with_front_more front x (repeat begins item n j))

pub map_more : {A B : Type 0} (f : A → B) (new old : List A) (x : A) → new ≡ old ++ x ∷ [] → map f old ++ f x ∷ [] ≡ map f new
map_more f new old x e = sym (ap (map f) e ∙ map-append f old (x ∷ []))
