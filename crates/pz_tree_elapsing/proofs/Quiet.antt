-- Where a node has no trouble, and nothing of it is due before a moment, the same is so of each active child.
use Rattle.std.proofs.Common.{◌≡◌, ◌+◌, ℕ, zero, suc, Bool, true, false, Option, Some, None, refl, ap, sym, ◌∙◌, subst, arith}
use Rattle.std.specs.Prelude.{option_map}
use Rattle.std.specs.Option.{option_or}
use Rattle.pz_clock.specs.Shifts.{is_running}
use Rattle.pz_tree_refreshing.specs.pz_offer.declared.summary.Summary.{Summary}
use Rattle.pz_tree_refreshing.specs.pz_offer.declared.trouble.Trouble.{Trouble}
use Rattle.pz_tree_refreshing.specs.pz_offer.Summaries.{nothing, least, join, shifted}
use Rattle.pz_tree_refreshing.specs.pz_rules.Settings.{Context}
use Rattle.pz_tree_refreshing.specs.pz_rules.Terms.{Term, done, Terms, no_terms, and, term_at}
use Rattle.pz_tree_refreshing.specs.pz_rules.devices.Found.{tested}
use Rattle.pz_tree_refreshing.specs.pz_tree_standing.Summaries.{summary_of, gated}
use Rattle.pz_tree_refreshing.proofs.pz_tree_standing_proofs.Tallies.{summary_guarded}
use Rattle.pz_tree_refreshing.specs.pz_tree_standing.Heads.{Head, inner_frame, formed}
use Rattle.pz_tree_refreshing.specs.pz_tree_standing.Heads as head
use Rattle.pz_tree_refreshing.specs.pz_tree_standing.Reached.{reaches, GateRight}
use Rattle.pz_tree_refreshing.proofs.pz_tree_standing_proofs.Still.{is_ok}
use Rattle.pz_tree_refreshing.specs.devices.Reached.{added, reached_sum}
use Rattle.pz_tree_refreshing.proofs.pz_tree_standing_proofs.Soon.{here_later}
use Rattle.pz_tree_refreshing.proofs.Sums.{IsPlain, plain_summary}
use Rattle.pz_tree_elapsing.specs.Elapsing.{IsNotBefore}

abbrev pub IsQuiet : ℕ → Summary → Type 0
IsQuiet e s = (s.trouble ≡ None) × IsNotBefore e s.due

no_trouble : (x y : Option Trouble) → option_or x y ≡ None → (x ≡ None) × (y ≡ None)
no_trouble None y e = (refl, e)
no_trouble (Some t) y e = absurd cc

not_before : (e : ℕ) (x y : Option ℕ) → IsNotBefore e (least x y) → IsNotBefore e x × IsNotBefore e y
not_before e None y h = (tt, h)
not_before e (Some m) None h = (h, tt)
not_before e (Some m) (Some n) h = (omega (arith, h), omega (arith, h))

both_quiet : (e : ℕ) (s t : Summary) → IsQuiet e (join s t) → IsQuiet e s × IsQuiet e t
both_quiet e s t h =
    let p = no_trouble s.trouble t.trouble h.0 in
    let q = not_before e s.due t.due h.1 in
    ((p.0, q.0), (p.1, q.1))

added_quiet : (e : ℕ) (b : Bool) (s t : Summary) → IsQuiet e (added join b s t) → (b ≡ true → IsQuiet e s) × IsQuiet e t
added_quiet e true s t h = let p = both_quiet e s t h in ((λ g. p.0), p.1)
added_quiet e false s t h = ((λ g. absurd cc), h)

sum_quiet : (e : ℕ) (h : Head) (g : Term → Summary) → g done ≡ nothing → (i : ℕ) (ts : Terms) → IsQuiet e (reached_sum nothing join h g i ts) → (j : ℕ) → reaches h (i + j) ≡ true → IsQuiet e (g (term_at ts j))
sum_quiet e h g z i no_terms q j r = subst (IsQuiet e) (sym z) (refl, tt)
sum_quiet e h g z i (and t ts) q zero r =
    let n : i + 0 ≡ i = omega arith in
    (added_quiet e (reaches h i) (g t) (reached_sum nothing join h g (suc i) ts) q).0 (subst (λ x. reaches h x ≡ true) n r)
sum_quiet e h g z i (and t ts) q (suc j) r =
    let n : i + suc j ≡ suc i + j = omega arith in
    sum_quiet e h g z (suc i) ts (added_quiet e (reaches h i) (g t) (reached_sum nothing join h g (suc i) ts) q).1 j (subst (λ x. reaches h x ≡ true) n r)

plain_kid : (a : Context) (e c f : ℕ) (h : Head) (ts : Terms) → IsPlain h → IsQuiet e (summary_of a c f (formed h c ts)) → (j : ℕ) → reaches h j ≡ true → IsQuiet e (summary_of a c (inner_frame h f) (term_at ts j))
plain_kid a e c f h ts p q j r =
    sum_quiet e h (summary_of a c (inner_frame h f)) refl 0 ts (subst (IsQuiet e) (plain_summary a h f c ts p) q) j (let n : j ≡ 0 + j = omega arith in subst (λ x. reaches h x ≡ true) n r)

-- by the clock of the node
pub kid_quiet : (a : Context) (e c f : ℕ) (h : Head) (ts : Terms) → GateRight a f h → IsQuiet e (summary_of a c f (formed h c ts)) → (j : ℕ) → reaches h j ≡ true → IsQuiet e (summary_of a c (inner_frame h f) (term_at ts j))
kid_quiet a e c f (head.leaf s) ts g q j r = absurd cc
kid_quiet a e c f (head.wait due at) ts g q j r = absurd cc
kid_quiet a e c f (head.sequence rest) ts g q j r = plain_kid a e c f (head.sequence rest) ts tt q j r
kid_quiet a e c f head.parallel ts g q j r = plain_kid a e c f head.parallel ts tt q j r
kid_quiet a e c f head.select ts g q j r = plain_kid a e c f head.select ts tt q j r
kid_quiet a e c f (head.guarded test at s) ts g q zero r =
    subst (IsQuiet e) (summary_guarded a c f test at (term_at ts 0) ∙ ap (λ z. gated z (summary_of a c f (term_at ts 0))) (is_ok a 0 (tested a f at test) (is_running s) g r)) q
kid_quiet a e c f (head.guarded test at s) ts g q (suc j) r = absurd cc
kid_quiet a e c f (head.frame number inputs results) ts g q j r = plain_kid a e c f (head.frame number inputs results) ts tt q j r
kid_quiet a e c f head.abort ts g q j r = plain_kid a e c f head.abort ts tt q j r
kid_quiet a e c f (head.idle again s) ts g q j r = plain_kid a e c f (head.idle again s) ts tt q j r
kid_quiet a e c f (head.handling again s) ts g q j r = plain_kid a e c f (head.handling again s) ts tt q j r
kid_quiet a e c f (head.shifted s) ts g q j r = plain_kid a e c f (head.shifted s) ts tt q j r

-- by its own clock, which is behind that of the node
pub quiet_inside : (a : Context) (d c inner by f : ℕ) (t : Term) → inner + by ≡ c → IsQuiet (c + d) (summary_of a c f t) → IsQuiet (inner + d) (summary_of a inner f t)
quiet_inside a d c inner by f t back q = of (summary_of a inner f t) (subst (IsQuiet (c + d)) (sym (here_later a c inner by f t back)) q)
  where
    earlier : (o : Option ℕ) → IsNotBefore (c + d) (option_map (λ x. x + by) o) → IsNotBefore (inner + d) o
    earlier None h = tt
    earlier (Some x) h = omega (arith, h, back)

    of : (s : Summary) → IsQuiet (c + d) (shifted by s) → IsQuiet (inner + d) s
    of s h = (h.0, earlier s.due h.1)
