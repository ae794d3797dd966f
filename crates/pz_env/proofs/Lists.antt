-- Lists that are made of others, one element at a time.
use Rattle.std.proofs.Common.{◌≡◌, sym, ap, ◌∙◌, ℕ, suc, ◌<◌, ◌≤◌, List, [], ◌∷◌, ◌++◌, map, drop, length, get_or}
use Rattle.std.proofs.lemmas.List.{append_assoc, append-nil, drop_all}
use Rattle.pz_env.proofs.Sets.{one_more}

module _ {A B : Type 0} (f : A → B) where
  -- one more has been made
  pub made_one : (ys : List A) (y : A) (i j : ℕ) (done new whole : List B) (b : B) → i < length ys → y ≡ get_or ys i y → j ≡ suc i → new ≡ done ++ b ∷ [] → b ≡ f y
      → done ++ map f (drop i ys) ≡ whole → new ++ map f (drop j ys) ≡ whole
  made_one ys y i j done new whole b within here after is made before =
      ap (λ (xs : List B). xs ++ map f (drop j ys)) is
      ∙ append_assoc done (b ∷ []) (map f (drop j ys))
      ∙ ap (λ (x : B). done ++ x ∷ map f (drop j ys)) made
      ∙ sym (ap (λ (xs : List A). done ++ map f xs) (one_more ys y i j within here after))
      ∙ before

  -- all have been made
  pub made_all : (ys : List A) (i : ℕ) (done whole : List B) → length ys ≤ i → done ++ map f (drop i ys) ≡ whole → done ≡ whole
  made_all ys i done whole past before = sym (append-nil done) ∙ sym (ap (λ (xs : List A). done ++ map f xs) (drop_all i ys past)) ∙ before
