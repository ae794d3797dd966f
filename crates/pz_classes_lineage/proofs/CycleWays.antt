-- Ways from class to parent, and the classes that they lead back to.
use Rattle.std.proofs.Common.{◌≡◌, subst, ℕ, Option, Some, None}
use Rattle.pz_classes_lineage.specs.Reached.{Reaches, itself, further, GoesRound, round}

module _ (up : ℕ → Option ℕ) where
  pub joined : (a b c : ℕ) → Reaches up a b → Reaches up b c → Reaches up a c
  joined _ _ c (itself a) more = more
  joined _ _ c (further a p b step way) more = further a p c step (joined p b c way more)

  pub one_more : (a b p : ℕ) → Reaches up a b → up b ≡ Some p → Reaches up a p
  one_more a b p way step = joined a b p way (further b p p step (itself p))

  turned : (p c : ℕ) → up c ≡ Some p → Reaches up p c → GoesRound up p
  turned _ _ step (itself c) = round c c step (itself c)
  turned _ _ step (further p q c next way) = round p q next (one_more q c p way step)

  -- the parent of a class that goes round does so, and leads back to it
  parent_round : (c p : ℕ) → GoesRound up c → up c ≡ Some p → GoesRound up p × Reaches up p c
  parent_round _ p (round c q step way) here =
      let same : q ≡ p = cc in
      subst (λ (x : ℕ). GoesRound up x × Reaches up x c) same (turned q c step way, way)

  -- what a class that goes round leads to leads back to it
  pub back : (c a : ℕ) → Reaches up c a → GoesRound up c → Reaches up a c
  back _ _ (itself c) goes = itself c
  back _ _ (further c p a step way) goes =
      let parent = parent_round c p goes step in
      joined a p c (back p a way parent.0) parent.1

  -- and goes round too
  pub round_on : (c a : ℕ) → Reaches up c a → GoesRound up c → GoesRound up a
  round_on _ _ (itself c) goes = goes
  round_on _ _ (further c p a step way) goes = round_on p a way (parent_round c p goes step).0

  pub parent_of_round : (c : ℕ) → GoesRound up c → (p : ℕ) × (up c ≡ Some p)
  parent_of_round _ (round c p step way) = (p, step)

  pub not_at_root : (c : ℕ) → up c ≡ None → GoesRound up c → ⊥
  not_at_root _ root (round c p step way) = cc

  -- what parents keep is kept on the way
  pub kept_on : (P : ℕ → Type 0) → ((c p : ℕ) → P c → up c ≡ Some p → P p) → (c a : ℕ) → Reaches up c a → P c → P a
  kept_on P keeps _ _ (itself c) holds = holds
  kept_on P keeps _ _ (further c p a step way) holds = kept_on P keeps p a way (keeps c p holds step)
