-- What was added for parts one after another, for parts of a child, and for one part.
use Rattle.std.proofs.Common.{◌≡◌, ℕ, List, [], ◌∷◌, ◌++◌, map, Option, refl, sym, subst, ap, ◌∙◌, append_assoc, append-nil}
use Rattle.pz_rules.specs.pz_offer.PlaceOrder.{Place}
use Rattle.pz_rules.specs.pz_offer.declared.trouble.Trouble.{Trouble}
use Rattle.pz_rules.specs.Terms.{Term}
use Rattle.pz_rules.specs.Settings.{Context}
use Rattle.pz_rules.specs.devices.Walk as walk
use Rattle.pz_rules.specs.devices.Walk.{ActivePart, here, under, Noted, does, sent_by, received_by, waiting, troubled_by, noted}
use Rattle.pz_term_enabled.specs.declared.found.ActiveSend.{ActiveSend}
use Rattle.pz_term_enabled.specs.declared.found.Found.{Found}
use Rattle.pz_term_enabled.specs.devices.Walked.{doing_view, receiving_view, CarryAll, whats, IsFew}
use Rattle.pz_term_enabled.specs.devices.Listings.{below, Adds, Notes, notes_of, nothing}
use Rattle.pz_term_enabled.proofs.Places.{noted_append, noted_under, noted_none, below_further, whats_further, below_append, whats_append}
use Rattle.pz_term_enabled.proofs.Beginning.{begin_both, begin_under}

-- lists that grew, with places and without

grown : {Y : Type 0} (o m n : List Y) (xs ys zs : List Y) → m ≡ o ++ xs → n ≡ m ++ ys → zs ≡ xs ++ ys → n ≡ o ++ zs
grown o m n xs ys zs first second both =
    second ∙ ap (λ (l : List _). l ++ ys) first ∙ append_assoc o xs ys ∙ ap (λ (l : List _). o ++ l) (sym both)

carry_append : (xs : List ActiveSend) (ns : List (Noted walk.ActiveSend)) (ys : List ActiveSend) (ms : List (Noted walk.ActiveSend)) → CarryAll xs ns → CarryAll ys ms → CarryAll (xs ++ ys) (ns ++ ms)
carry_append [] [] ys ms first second = second
carry_append [] (n ∷ ns) ys ms first second = absurd first
carry_append (x ∷ xs) [] ys ms first second = absurd first
carry_append (x ∷ xs) (n ∷ ns) ys ms first second = (first.0, carry_append xs ns ys ms first.1 second)

module _ (a : Context) where
  abbrev receives : ℕ → Term → Option walk.ActiveReceive
  receives f = received_by

  pub adds_none : (place : Place) (o : Found) → Adds a place [] o o
  adds_none place o = record {
    internal = sym (append-nil (map doing_view o.internal.items));
    sends = record { more = []; added = sym (append-nil o.sends.items); carried = tt };
    receives = sym (append-nil (map receiving_view o.receives.items));
    delays = sym (append-nil o.delays.items);
    troubles = sym (append-nil o.troubles.items);
    times = tt;
  }

  pub adds_both : (place : Place) (ps qs : List ActivePart) (o m n : Found) → Adds a place ps o m → Adds a place qs m n → Adds a place (ps ++ qs) o n
  adds_both place ps qs o m n first second = record {
    internal = grown (map doing_view o.internal.items) (map doing_view m.internal.items) (map doing_view n.internal.items) _ _ _ first.internal second.internal
        (ap (λ (l : List (Noted walk.Doing)). map (below place) l) (noted_append (does a) ps qs) ∙ below_append place (noted (does a) ps) (noted (does a) qs));
    sends = record {
      more = first.sends.more ++ second.sends.more;
      added = grown o.sends.items m.sends.items n.sends.items first.sends.more second.sends.more _ first.sends.added second.sends.added refl;
      carried = subst (λ (l : List (Noted walk.ActiveSend)). CarryAll (first.sends.more ++ second.sends.more) l)
          (sym (ap (λ (l : List (Noted walk.ActiveSend)). map (below place) l) (noted_append (sent_by a) ps qs) ∙ below_append place (noted (sent_by a) ps) (noted (sent_by a) qs)))
          (carry_append first.sends.more (map (below place) (noted (sent_by a) ps)) second.sends.more (map (below place) (noted (sent_by a) qs)) first.sends.carried second.sends.carried);
    };
    receives = grown (map receiving_view o.receives.items) (map receiving_view m.receives.items) (map receiving_view n.receives.items) _ _ _ first.receives second.receives
        (ap (λ (l : List (Noted walk.ActiveReceive)). map (below place) l) (noted_append receives ps qs) ∙ below_append place (noted receives ps) (noted receives qs));
    delays = grown o.delays.items m.delays.items n.delays.items _ _ _ first.delays second.delays
        (ap (λ (l : List (Noted ℕ)). whats l) (noted_append (waiting a) ps qs) ∙ whats_append (noted (waiting a) ps) (noted (waiting a) qs));
    troubles = grown o.troubles.items m.troubles.items n.troubles.items _ _ _ first.troubles second.troubles
        (ap (λ (l : List (Noted Trouble)). whats l) (noted_append (troubled_by a) ps qs) ∙ whats_append (noted (troubled_by a) ps) (noted (troubled_by a) qs));
    times = begin_both a ps qs first.times second.times;
  }

  pub adds_under : (place inner : Place) (i : ℕ) (ps : List ActivePart) (o n : Found) → inner ≡ place ++ i ∷ [] → Adds a inner ps o n → Adds a place (map (under i) ps) o n
  adds_under place inner i ps o n entered adds = record {
    internal = adds.internal ∙ ap (λ (l : List (Noted walk.Doing)). map doing_view o.internal.items ++ l) (seen (does a));
    sends = record {
      more = adds.sends.more;
      added = adds.sends.added;
      carried = subst (λ (l : List (Noted walk.ActiveSend)). CarryAll adds.sends.more l) (seen (sent_by a)) adds.sends.carried;
    };
    receives = adds.receives ∙ ap (λ (l : List (Noted walk.ActiveReceive)). map receiving_view o.receives.items ++ l) (seen receives);
    delays = adds.delays ∙ ap (λ (l : List ℕ). o.delays.items ++ l) (same (waiting a));
    troubles = adds.troubles ∙ ap (λ (l : List Trouble). o.troubles.items ++ l) (same (troubled_by a));
    times = begin_under a i ps adds.times;
  }
    where
      seen : {X : Type 0} (h : ℕ → Term → Option X) → map (below inner) (noted h ps) ≡ map (below place) (noted h (map (under i) ps))
      seen h =
          ap (λ (p : Place). map (below p) (noted h ps)) entered ∙ sym (below_further place i (noted h ps))
          ∙ ap (λ (l : List (Noted _)). map (below place) l) (sym (noted_under h i ps))

      same : {X : Type 0} (h : ℕ → Term → Option X) → whats (noted h ps) ≡ whats (noted h (map (under i) ps))
      same h = sym (ap (λ (l : List (Noted _)). whats l) (noted_under h i ps) ∙ whats_further i (noted h ps))

  -- a part of which nothing is noted, before others
  pub adds_after : (place : Place) (f : ℕ) (t : Term) (ps : List ActivePart) (o n : Found) → notes_of a f t ≡ nothing → Adds a place ps o n → Adds a place (here f t ∷ ps) o n
  adds_after place f t ps o n none adds = record {
    internal = adds.internal ∙ ap (λ (l : List (Noted walk.Doing)). map doing_view o.internal.items ++ map (below place) l) (sym (noted_none (does a) f t ps (ap (λ (x : Notes). x.does) none)));
    sends = record {
      more = adds.sends.more;
      added = adds.sends.added;
      carried = subst (λ (l : List (Noted walk.ActiveSend)). CarryAll adds.sends.more (map (below place) l)) (sym (noted_none (sent_by a) f t ps (ap (λ (x : Notes). x.sends) none))) adds.sends.carried;
    };
    receives = adds.receives ∙ ap (λ (l : List (Noted walk.ActiveReceive)). map receiving_view o.receives.items ++ map (below place) l) (sym (noted_none receives f t ps (ap (λ (x : Notes). x.receives) none)));
    delays = adds.delays ∙ ap (λ (l : List (Noted ℕ)). o.delays.items ++ whats l) (sym (noted_none (waiting a) f t ps (ap (λ (x : Notes). x.left) none)));
    troubles = adds.troubles ∙ ap (λ (l : List (Noted Trouble)). o.troubles.items ++ whats l) (sym (noted_none (troubled_by a) f t ps (ap (λ (x : Notes). x.trouble) none)));
    times = (λ unbegun. subst IsFew (sym (ap (λ (x : Notes). x.left) none)) tt, adds.times);
  }
