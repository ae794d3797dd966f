-- What is noted of the active parts of a term, cut at its children.
use Rattle.std.proofs.Common.{◌≡◌, ℕ, suc, Bool, true, false, cond, List, [], ◌∷◌, ◌++◌, map, Option, Some, None, Result, Ok, Err, refl, ap, sym, ◌∙◌, arith, append-nil}
use Rattle.std.specs.List.{cons_option}
use Rattle.pz_rules.specs.pz_offer.declared.trouble.Trouble.{Trouble}
use Rattle.pz_nodes_shapes.specs.Rose.{none, gone, more, width}
use Rattle.pz_rules.specs.Terms.{Term, Terms, no_terms, and, count, term_at}
use Rattle.pz_rules.specs.Settings.{Context}
use Rattle.pz_rules.specs.devices.Found.{tested}
use Rattle.pz_rules.specs.devices.Walk.{ActivePart, Noted, here, under, behind, active_parts, active_children, noted, noted_at}
use Rattle.pz_tree_standing.specs.Heads.{Head, leaf, wait, sequence, parallel, select, guarded, frame, abort, idle, handling, shifted, Shapes, inner_frame, formed}
use Rattle.pz_tree_standing.specs.Standing.{terms_of}
use Rattle.pz_tree_standing.specs.Reached.{reaches, is_true, GateRight}
use Rattle.pz_tree_standing.specs.Whole.{IsNoShift, HasParts}
use Rattle.pz_tree_nodes.specs.devices.Onward.{further}

-- ---------------------------------------------------------- the parts of the children

module _ (a : Context) (f : ℕ) (h : Head) where
  abbrev kid_parts : ℕ → Terms → List ActivePart
  kid_parts i no_terms = []
  kid_parts i (and t ts) = cond (reaches h i) (map (under i) (active_parts a f t)) [] ++ kid_parts (suc i) ts

  all_children : ((j : ℕ) → reaches h j ≡ true) → (i : ℕ) (ts : Terms) → active_children a f i ts ≡ kid_parts i ts
  all_children g i no_terms = refl
  all_children g i (and t ts) = λ n. cond (sym (g i) n) (map (under i) (active_parts a f t)) [] ++ all_children g (suc i) ts n

  one_child : (ts : Terms) → count ts ≡ 1 → reaches h 0 ≡ true → map (under 0) (active_parts a f (term_at ts 0)) ≡ kid_parts 0 ts
  one_child no_terms e g = absurd (omega (arith, e))
  one_child (and t no_terms) e g =
      sym (append-nil (map (under 0) (active_parts a f t))) ∙ ap (λ b. cond b (map (under 0) (active_parts a f t)) [] ++ []) (sym g)
  one_child (and t (and u ts)) e g = absurd (omega (arith, e))

  two_children : (ts : Terms) → count ts ≡ 2 → reaches h 0 ≡ true → reaches h 1 ≡ true
      → map (under 0) (active_parts a f (term_at ts 0)) ++ map (under 1) (active_parts a f (term_at ts 1)) ≡ kid_parts 0 ts
  two_children no_terms e g k = absurd (omega (arith, e))
  two_children (and t no_terms) e g k = absurd (omega (arith, e))
  two_children (and t (and u no_terms)) e g k =
      ap (λ l. map (under 0) (active_parts a f t) ++ l) (sym (append-nil (map (under 1) (active_parts a f u))))
      ∙ (λ n. cond (sym g n) (map (under 0) (active_parts a f t)) [] ++ (cond (sym k n) (map (under 1) (active_parts a f u)) [] ++ []))
  two_children (and t (and u (and v ts))) e g k = absurd (omega (arith, e))

  second_child : (ts : Terms) → count ts ≡ 2 → reaches h 0 ≡ false → reaches h 1 ≡ true → map (under 1) (active_parts a f (term_at ts 1)) ≡ kid_parts 0 ts
  second_child no_terms e g k = absurd (omega (arith, e))
  second_child (and t no_terms) e g k = absurd (omega (arith, e))
  second_child (and t (and u no_terms)) e g k =
      sym (append-nil (map (under 1) (active_parts a f u)))
      ∙ (λ n. cond (sym g n) (map (under 0) (active_parts a f t)) [] ++ (cond (sym k n) (map (under 1) (active_parts a f u)) [] ++ []))
  second_child (and t (and u (and v ts))) e g k = absurd (omega (arith, e))

  -- behind a guard
  behind_gate : (ts : Terms) → count ts ≡ 1 → (r : Result Bool Trouble) → reaches h 0 ≡ is_true r
      → behind r (map (under 0) (active_parts a f (term_at ts 0))) ≡ kid_parts 0 ts
  behind_gate no_terms e r g = absurd (omega (arith, e))
  behind_gate (and t no_terms) e (Ok true) g = one_child (and t no_terms) e g
  behind_gate (and t no_terms) e (Ok false) g = ap (λ b. cond b (map (under 0) (active_parts a f t)) [] ++ []) (sym g)
  behind_gate (and t no_terms) e (Err u) g = ap (λ b. cond b (map (under 0) (active_parts a f t)) [] ++ []) (sym g)
  behind_gate (and t (and u ts)) e r g = absurd (omega (arith, e))

pub counted : (h : Head) (c i : ℕ) (ss : Shapes) → count (terms_of h c i ss) ≡ width ss
counted h c i none = refl
counted h c i (gone ss) = ap suc (counted h c (suc i) ss)
counted h c i (more s ss) = ap suc (counted h c (suc i) ss)

no_children : (a : Context) (f : ℕ) (h : Head) (c : ℕ) (ss : Shapes) → width ss ≡ 0 → kid_parts a f h 0 (terms_of h c 0 ss) ≡ []
no_children a f h c none e = refl
no_children a f h c (gone ss) e = absurd (omega (arith, e))
no_children a f h c (more s ss) e = absurd (omega (arith, e))

-- the active parts of the term of a node: itself, and those of the children that it reaches
cut : (a : Context) (f c : ℕ) (h : Head) (ss : Shapes) → HasParts h ss → IsNoShift h → GateRight a f h
    → active_parts a f (formed h c (terms_of h c 0 ss)) ≡ here f (formed h c (terms_of h c 0 ss)) ∷ kid_parts a (inner_frame h f) h 0 (terms_of h c 0 ss)
cut a f c (leaf s) ss p n g = ap (λ l. here f (formed (leaf s) c (terms_of (leaf s) c 0 ss)) ∷ l) (sym (no_children a f (leaf s) c ss p))
cut a f c (wait due at) ss p n g = ap (λ l. here f (formed (wait due at) c (terms_of (wait due at) c 0 ss)) ∷ l) (sym (no_children a f (wait due at) c ss p))
cut a f c (sequence rest) ss p n g = let h = sequence rest in let ts = terms_of h c 0 ss in
    ap (λ l. here f (formed h c ts) ∷ l) (one_child a f h ts (counted h c 0 ss ∙ p) refl)
cut a f c parallel ss p n g = let ts = terms_of parallel c 0 ss in ap (λ l. here f (formed parallel c ts) ∷ l) (all_children a f parallel (λ j. refl) 0 ts)
cut a f c select ss p n g = let ts = terms_of select c 0 ss in ap (λ l. here f (formed select c ts) ∷ l) (all_children a f select (λ j. refl) 0 ts)
cut a f c (guarded e at s) ss p n g = let h = guarded e at s in let ts = terms_of h c 0 ss in
    ap (λ l. here f (formed h c ts) ∷ l) (behind_gate a f h ts (counted h c 0 ss ∙ p) (tested a f at e) g)
cut a f c (frame number inputs results) ss p n g = let h = frame number inputs results in let ts = terms_of h c 0 ss in
    ap (λ l. here f (formed h c ts) ∷ l) (one_child a number h ts (counted h c 0 ss ∙ p) refl)
cut a f c abort ss p n g = let ts = terms_of abort c 0 ss in
    ap (λ l. here f (formed abort c ts) ∷ l) (two_children a f abort ts (counted abort c 0 ss ∙ p) refl refl)
cut a f c (idle again s) ss p n g = let h = idle again s in let ts = terms_of h c 0 ss in
    ap (λ l. here f (formed h c ts) ∷ l) (two_children a f h ts (counted h c 0 ss ∙ p) refl refl)
cut a f c (handling again s) ss p n g = let h = handling again s in let ts = terms_of h c 0 ss in
    ap (λ l. here f (formed h c ts) ∷ l) (second_child a f h ts (counted h c 0 ss ∙ p) refl refl)
cut a f c (shifted s) ss p n g = absurd n

-- ---------------------------------------------------------- what is noted of them

module _ {X : Type 0} (q : ℕ → Term → Option X) where
  noted_append : (ps qs : List ActivePart) → noted q (ps ++ qs) ≡ noted q ps ++ noted q qs
  noted_append [] qs = refl
  noted_append (p ∷ ps) qs = by (noted_at p.place (q p.frame p.part)) (noted_append ps qs)
    where
      by : (o : Option (Noted X)) → noted q (ps ++ qs) ≡ noted q ps ++ noted q qs → cons_option o (noted q (ps ++ qs)) ≡ cons_option o (noted q ps) ++ noted q qs
      by None rest = rest
      by (Some n) rest = ap (λ (ns : List (Noted X)). n ∷ ns) rest

  noted_under : (i : ℕ) (ps : List ActivePart) → noted q (map (under i) ps) ≡ map (further i) (noted q ps)
  noted_under i [] = refl
  noted_under i (p ∷ ps) = by (q p.frame p.part) (noted_under i ps)
    where
      by : (o : Option X) → noted q (map (under i) ps) ≡ map (further i) (noted q ps) → cons_option (noted_at (i ∷ p.place) o) (noted q (map (under i) ps)) ≡ map (further i) (cons_option (noted_at p.place o) (noted q ps))
      by None rest = rest
      by (Some x) rest = ap (λ (ns : List (Noted X)). record { place = i ∷ p.place; what = x } ∷ ns) rest

  pub noted_none : (f : ℕ) (t : Term) (ps : List ActivePart) → q f t ≡ None → noted q (here f t ∷ ps) ≡ noted q ps
  noted_none f t ps is = ap (λ (o : Option X). cons_option (noted_at [] o) (noted q ps)) is

  module _ (a : Context) (f : ℕ) (h : Head) where
    -- of child i, if it is active
    abbrev pub notes_at : ℕ → Term → List (Noted X)
    notes_at i t = cond (reaches h i) (map (further i) (noted q (active_parts a f t))) []

    -- of children, of which the first has number i
    abbrev pub kid_notes : ℕ → Terms → List (Noted X)
    kid_notes i no_terms = []
    kid_notes i (and t ts) = notes_at i t ++ kid_notes (suc i) ts

    noted_kid : (b : Bool) (i : ℕ) (ps : List ActivePart) → noted q (cond b (map (under i) ps) []) ≡ cond b (map (further i) (noted q ps)) []
    noted_kid true i ps = noted_under i ps
    noted_kid false i ps = refl

    noted_kids : (i : ℕ) (ts : Terms) → noted q (kid_parts a f h i ts) ≡ kid_notes i ts
    noted_kids i no_terms = refl
    noted_kids i (and t ts) =
        noted_append (cond (reaches h i) (map (under i) (active_parts a f t)) []) (kid_parts a f h (suc i) ts)
        ∙ (λ n. noted_kid (reaches h i) i (active_parts a f t) n ++ noted_kids (suc i) ts n)

  -- of the term of a node of which nothing is noted itself
  pub notes_cut : (a : Context) (f c : ℕ) (h : Head) (ss : Shapes) → HasParts h ss → IsNoShift h → GateRight a f h → q f (formed h c (terms_of h c 0 ss)) ≡ None
      → noted q (active_parts a f (formed h c (terms_of h c 0 ss))) ≡ kid_notes a (inner_frame h f) h 0 (terms_of h c 0 ss)
  notes_cut a f c h ss p n g e =
      ap (noted q) (cut a f c h ss p n g)
      ∙ noted_none f (formed h c (terms_of h c 0 ss)) (kid_parts a (inner_frame h f) h 0 (terms_of h c 0 ss)) e
      ∙ noted_kids a (inner_frame h f) h 0 (terms_of h c 0 ss)
