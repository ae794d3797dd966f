-- One more branch.
use Rattle.std.proofs.Common.{◌≡◌, refl, sym, ap, ◌∙◌, ℕ, zero, suc, ◌<◌, ◌≤◌, List, [], ◌∷◌, ◌++◌, map, take, length, get_or, arith}
use Rattle.std.proofs.lemmas.List.{take_all}

module _ {A B C : Type 0} (g : A → C) (f : B → C) where
  join : (steps : List (List A)) (part : List A) → map (map g) (steps ++ part ∷ []) ≡ map (map g) steps ++ map g part ∷ []
  join [] part = refl
  join (s ∷ steps) part = ap (λ (l : List (List C)). map g s ∷ l) (join steps part)

  more : (bs : List (List B)) (b : List B) (i : ℕ) → i < length bs → b ≡ get_or bs i b → map (map f) (take (suc i) bs) ≡ map (map f) (take i bs) ++ map f b ∷ []
  more [] b i within here = absurd (omega arith)
  more (c ∷ bs) b zero within here = let same : b ≡ c = here in rw same refl
  more (c ∷ bs) b (suc i) within here = ap (λ (l : List (List C)). map f c ∷ l) (more bs b i (omega arith) here)

  pub branch_step : (steps next : List (List A)) (part : List A) (bs : List (List B)) (b stmts : List B) (i j k : ℕ) → i < length bs → j ≡ suc i → b ≡ get_or bs i b → stmts ≡ b
      → length stmts ≤ k → map g part ≡ map f (take k stmts) → next ≡ steps ++ part ∷ [] → map (map g) steps ≡ map (map f) (take i bs) → map (map g) next ≡ map (map f) (take j bs)
  branch_step steps next part bs b stmts i j k within after here same past each pushed before =
      let last : map g part ≡ map f b = each ∙ ap (λ (l : List B). map f l) (take_all k stmts past) ∙ ap (λ (l : List B). map f l) same in
      rw (pushed, after) (join steps part ∙ ap (λ (l : List (List C)). l ++ map g part ∷ []) before ∙ ap (λ (l : List C). map (map f) (take i bs) ++ l ∷ []) last ∙ sym (more bs b i within here))
