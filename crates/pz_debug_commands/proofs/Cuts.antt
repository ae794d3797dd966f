-- Texts that lack a byte, and texts that are cut where it first stands.
use Rattle.std.proofs.Common.{◌≡◌, refl, sym, ap, ◌∙◌, ℕ, zero, suc, ◌<◌, List, [], ◌∷◌, ◌++◌, length, get_or, take, drop, arith}
use Rattle.pz_debug_commands.specs.Lines.{Lacks}

pub lacks_more : (c i : ℕ) (text : List ℕ) → i < length text → Lacks c (take i text) → (get_or text i 0 ≡ c → ⊥) → Lacks c (take (suc i) text)
lacks_more c i [] within lacks apart = absurd (omega (arith, within))
lacks_more c zero (b ∷ bs) within lacks apart = (apart, tt)
lacks_more c (suc i) (b ∷ bs) within lacks apart = (lacks.0, lacks_more c i bs (omega (arith, within)) lacks.1 apart)

pub parts_at : (i : ℕ) (text : List ℕ) → i < length text → text ≡ take i text ++ (get_or text i 0 ∷ drop (suc i) text)
parts_at i [] within = absurd (omega (arith, within))
parts_at zero (b ∷ bs) within = refl
parts_at (suc i) (b ∷ bs) within = ap (λ (l : List ℕ). b ∷ l) (parts_at i bs (omega (arith, within)))

pub lacks_both : (c : ℕ) (a b : List ℕ) → Lacks c a → Lacks c b → Lacks c (a ++ b)
lacks_both c [] b la lb = lb
lacks_both c (x ∷ a) b la lb = (la.0, lacks_both c a b la.1 lb)

pub lacks_not : (c : ℕ) (a r : List ℕ) → Lacks c (a ++ (c ∷ r)) → ⊥
lacks_not c [] r l = l.0 refl
lacks_not c (x ∷ a) r l = lacks_not c a r l.1

head_is : {x y : ℕ} {xs ys : List ℕ} → x ∷ xs ≡ y ∷ ys → x ≡ y
head_is h = cc

tail_is : {x y : ℕ} {xs ys : List ℕ} → x ∷ xs ≡ y ∷ ys → xs ≡ ys
tail_is h = cc

-- the first such byte cuts a text in one way
pub cut_once : (c : ℕ) (a b r s : List ℕ) → Lacks c a → Lacks c b → a ++ (c ∷ r) ≡ b ++ (c ∷ s) → (a ≡ b) × (r ≡ s)
cut_once c [] [] r s la lb e = (refl, tail_is e)
cut_once c [] (y ∷ b) r s la lb e = absurd (lb.0 (sym (head_is e)))
cut_once c (x ∷ a) [] r s la lb e = absurd (la.0 (head_is e))
cut_once c (x ∷ a) (y ∷ b) r s la lb e =
    let rest = cut_once c a b r s la.1 lb.1 (tail_is e) in
    (ap (λ (k : ℕ). k ∷ a) (head_is e) ∙ ap (λ (l : List ℕ). y ∷ l) rest.0, rest.1)
