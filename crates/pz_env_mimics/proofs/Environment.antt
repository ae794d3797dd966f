-- What is left of the environment as a process, and the one part of it that acts.
use Rattle.std.proofs.Common.{◌≡◌, ℕ, zero, suc, List, [], ◌∷◌, All, refl, sym, subst, arith}
use Rattle.pz_env_tree.specs.pz_syntax.Statements.{then}
use Rattle.pz_env_tree.specs.pz_offer.PlaceOrder.{Place}
use Rattle.pz_env_tree.specs.pz_rules.Terms.{Steps, Term, done, leaf, wait, sequence, frame, first_or}
use Rattle.pz_env_tree.specs.pz_rules.Settings.{Context}
use Rattle.pz_env_tree.specs.pz_rules.Active.{Reached, Active, IsActive, here, inside}
use Rattle.pz_env_tree.specs.pz_env_rules.Environment.{Line, at_line, wait_of, Doing, over, waits, offers}
use Rattle.pz_env_mimics.specs.Environments.{exchange, waiting, statements}

-- the delay of a line, of which so much is left
pub data IsWaiting (x : Line) : ℕ → Term → Type 0 where
  not_begun : IsWaiting x (wait_of x.entry) (leaf (waiting x))
  begun : (left : ℕ) → IsWaiting x left (wait left (at_line x))

module _ (port : Line → ℕ) where
  -- what stands behind the delay of a line
  abbrev pub behind : Line → List Line → Steps
  behind x rest = (then) (exchange (port x) x x.entry.transfer) (statements port rest)

  -- the same, opened
  abbrev pub offering : Line → List Line → Term
  offering x [] = leaf (exchange (port x) x x.entry.transfer)
  offering x (y ∷ ys) = sequence (leaf (exchange (port x) x x.entry.transfer)) (statements port (y ∷ ys))

-- a frame round a term, that of the one method
abbrev pub called : Term → Term
called t = frame 1 0 [] t

-- the environment that does this is left as this term; all lines that are left are of this kind
pub data IsDoing (port : Line → ℕ) (Fit : Line → Type 0) : Doing → Term → Type 0 where
  finished : IsDoing port Fit over done
  waiting_for : (left : ℕ) (x : Line) (rest : List Line) (t : Term) → Fit x → All Fit rest → IsWaiting x left t
      → IsDoing port Fit (waits left x rest) (called (sequence t (behind port x rest)))
  offering_it : (x : Line) (rest : List Line) → Fit x → All Fit rest → IsDoing port Fit (offers x rest) (called (offering port x rest))

-- the place of the part that acts
abbrev pub place_of : Doing → Place
place_of over = []
place_of (waits left x rest) = 0 ∷ 0 ∷ []
place_of (offers x []) = 0 ∷ []
place_of (offers x (y ∷ ys)) = 0 ∷ 0 ∷ []

-- a term round another
abbrev pub IsAround : Term → Type 0
IsAround (sequence t rest) = Unit {0}
IsAround (frame number inputs results t) = Unit {0}
IsAround _ = ⊥

-- the part at this place in frame 1, or one around it
pub data IsPart (at : Place) (t : Term) : Place → ℕ → Term → Type 0 where
  itself : IsPart at t at 1 t
  outer : (place : Place) (g : ℕ) (part : Term) → IsAround part → IsPart at t place g part

-- it has no parts
abbrev pub IsBare : Context → Term → Type 0
IsBare a t = (i : ℕ) → Reached a 1 t i → ⊥

module _ (a : Context) (t : Term) (bare : IsBare a t) (at : Place) where
  part_itself : (place : Place) (g : ℕ) (part : Term) → Active a 1 t place g part → (outside : Place → Place) → outside [] ≡ at
      → IsPart at t (outside place) g part
  part_itself _ _ _ (here _ _) outside is = subst (λ (p : Place). IsPart at t p 1 t) (sym is) itself
  part_itself _ _ _ (inside _ _ i place g part is rest) outside at_is = absurd (bare i is)

module _ (a : Context) (t : Term) (bare : IsBare a t) where
  -- in a frame
  pub part_called : (place : Place) (g : ℕ) (part : Term) → Active a 0 (called t) place g part → IsPart (0 ∷ []) t place g part
  part_called _ _ _ (here _ _) = outer [] 0 (called t) tt
  part_called _ _ _ (inside _ _ i place g part is rest) = by i is rest
    where
      by : (i : ℕ) → i ≡ 0 → Active a 1 (first_or t done i) place g part → IsPart (0 ∷ []) t (i ∷ place) g part
      by zero e act = part_itself a t bare (0 ∷ []) place g part act (λ p. 0 ∷ p) refl
      by (suc i) e act = absurd (omega (arith, e))

  -- in a sequence in a frame
  pub part_in_sequence : (more : Steps) (place : Place) (g : ℕ) (part : Term) → Active a 0 (called (sequence t more)) place g part
      → IsPart (0 ∷ 0 ∷ []) t place g part
  part_in_sequence more _ _ _ (here _ _) = outer [] 0 (called (sequence t more)) tt
  part_in_sequence more _ _ _ (inside _ _ i place g part is rest) = by i is rest
    where
      deeper : (place : Place) (g : ℕ) (part : Term) → Active a 1 (sequence t more) place g part → IsPart (0 ∷ 0 ∷ []) t (0 ∷ place) g part
      deeper _ _ _ (here _ _) = outer (0 ∷ []) 1 (sequence t more) tt
      deeper _ _ _ (inside _ _ j place g part is rest) = last j is rest
        where
          last : (j : ℕ) → j ≡ 0 → Active a 1 (first_or t done j) place g part → IsPart (0 ∷ 0 ∷ []) t (0 ∷ j ∷ place) g part
          last zero e act = part_itself a t bare (0 ∷ 0 ∷ []) place g part act (λ p. 0 ∷ 0 ∷ p) refl
          last (suc j) e act = absurd (omega (arith, e))

      by : (i : ℕ) → i ≡ 0 → Active a 1 (first_or (sequence t more) done i) place g part → IsPart (0 ∷ 0 ∷ []) t (i ∷ place) g part
      by zero e act = deeper place g part act
      by (suc i) e act = absurd (omega (arith, e))

pub active_called : (a : Context) (t : Term) → Active a 0 (called t) (0 ∷ []) 1 t
active_called a t = inside 0 (called t) 0 [] 1 t refl (here 1 t)

pub active_in_sequence : (a : Context) (t : Term) (more : Steps) → Active a 0 (called (sequence t more)) (0 ∷ 0 ∷ []) 1 t
active_in_sequence a t more =
    inside 0 (called (sequence t more)) 0 (0 ∷ []) 1 t refl (inside 1 (sequence t more) 0 [] 1 t refl (here 1 t))

-- nothing of what is done is active but itself
pub part_done : (a : Context) (place : Place) (g : ℕ) (part : Term) → Active a 0 done place g part → part ≡ done
part_done a _ _ _ (here _ _) = refl
part_done a _ _ _ (inside _ _ i place g part is rest) = absurd is

module _ (a : Context) (port : Line → ℕ) where
  waiting_bare : (x : Line) (left : ℕ) (t : Term) → IsWaiting x left t → IsBare a t
  waiting_bare x _ _ not_begun i is = is
  waiting_bare x _ _ (begun left) i is = is

  pub part_waiting : (x : Line) (rest : List Line) (left : ℕ) (t : Term) → IsWaiting x left t → (place : Place) (g : ℕ) (part : Term)
      → Active a 0 (called (sequence t (behind port x rest))) place g part → IsPart (0 ∷ 0 ∷ []) t place g part
  part_waiting x rest left t is = part_in_sequence a t (waiting_bare x left t is) (behind port x rest)

  pub part_offering : (x : Line) (rest : List Line) (place : Place) (g : ℕ) (part : Term) → Active a 0 (called (offering port x rest)) place g part
      → IsPart (place_of (offers x rest)) (leaf (exchange (port x) x x.entry.transfer)) place g part
  part_offering x [] = part_called a (leaf (exchange (port x) x x.entry.transfer)) (λ i is. is)
  part_offering x (y ∷ ys) = part_in_sequence a (leaf (exchange (port x) x x.entry.transfer)) (λ i is. is) (statements port (y ∷ ys))

  pub active_offering : (x : Line) (rest : List Line)
      → Active a 0 (called (offering port x rest)) (place_of (offers x rest)) 1 (leaf (exchange (port x) x x.entry.transfer))
  active_offering x [] = active_called a (leaf (exchange (port x) x x.entry.transfer))
  active_offering x (y ∷ ys) =
      active_in_sequence a (leaf (exchange (port x) x x.entry.transfer)) (statements port (y ∷ ys))

module _ (port : Line → ℕ) (Fit : Line → Type 0) where
  -- which part of the environment an active part is
  pub data PartIs : Doing → Term → Place → ℕ → Term → Type 0 where
    around_it : (doing : Doing) (whole : Term) (place : Place) (g : ℕ) (part : Term) → IsAround part → PartIs doing whole place g part
    ended : (whole : Term) (place : Place) (g : ℕ) → PartIs over whole place g done
    delayed : (left : ℕ) (x : Line) (rest : List Line) (t : Term) → Fit x → All Fit rest → IsWaiting x left t
        → PartIs (waits left x rest) (called (sequence t (behind port x rest))) (0 ∷ 0 ∷ []) 1 t
    exchanges : (x : Line) (rest : List Line) → Fit x → All Fit rest
        → PartIs (offers x rest) (called (offering port x rest)) (place_of (offers x rest)) 1 (leaf (exchange (port x) x x.entry.transfer))

  pub part_is : (a : Context) (doing : Doing) (whole : Term) (place : Place) (g : ℕ) (part : Term) → IsDoing port Fit doing whole
      → IsActive a whole place g part → PartIs doing whole place g part
  part_is a _ _ place g part finished act =
      subst (λ (t : Term). PartIs over done place g t) (sym (part_done a place g part act)) (ended done place g)
  part_is a _ _ place g part (waiting_for left x rest t fit fits is) act =
      by place g part (part_waiting a port x rest left t is place g part act)
    where
      by : (place : Place) (g : ℕ) (part : Term) → IsPart (0 ∷ 0 ∷ []) t place g part
          → PartIs (waits left x rest) (called (sequence t (behind port x rest))) place g part
      by _ _ _ itself = delayed left x rest t fit fits is
      by _ _ _ (outer place g part around) = around_it (waits left x rest) (called (sequence t (behind port x rest))) place g part around
  part_is a _ _ place g part (offering_it x rest fit fits) act = by place g part (part_offering a port x rest place g part act)
    where
      by : (place : Place) (g : ℕ) (part : Term) → IsPart (place_of (offers x rest)) (leaf (exchange (port x) x x.entry.transfer)) place g part
          → PartIs (offers x rest) (called (offering port x rest)) place g part
      by _ _ _ itself = exchanges x rest fit fits
      by _ _ _ (outer place g part around) = around_it (offers x rest) (called (offering port x rest)) place g part around
