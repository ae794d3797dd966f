-- The positions of the tokens change nothing else of an expression.
use Rattle.std.proofs.Common.{◌≡◌, ℕ, suc, ◌+◌, length, refl, ap, ◌∙◌}
use Rattle.pz_syntax.specs.declared.tokens.Pos.{Pos}
use Rattle.pz_syntax.specs.declared.tokens.Symbol.TheVariants as s
use Rattle.pz_syntax.specs.declared.names.Id.{Id}
use Rattle.pz_syntax.specs.Expressions.{Expression, literal, variable, me, clock, creation, group, chain, sends, unary, assign, returned, choice, loop, Expressions, none, more, Part, left_out, written, Links, no_links, link, Sendings, no_sendings, sending}
use Rattle.pz_syntax.specs.ExpressionText.{text, texts, arguments_text}
use Rattle.pz_syntax.specs.ExpressionErasure.{origin, erase_id, erase, erase_all, erase_part, erase_links, erase_sendings}
use Rattle.pz_parser_expressions.specs.ExpressionPlaces.{place, place_all, place_tail, place_part, place_links, place_sendings}

mutual
  pub erase_place : (at : ℕ → Pos) (k : ℕ) (t : Expression Id Id) → erase (place at k t) ≡ erase t
  erase_place at k (literal pos x) = refl
  erase_place at k (variable pos x) = refl
  erase_place at k (me pos) = refl
  erase_place at k (clock pos) = refl
  erase_place at k (creation pos class) = refl
  erase_place at k (group pos ts) = ap (group origin) (erase_place_all at (suc k) ts)
  erase_place at k (chain pos t ls) = ap (λ u. chain origin u (erase_links (place_links at (k + length (text t)) ls))) (erase_place at k t) ∙ ap (chain origin (erase t)) (erase_place_links at (k + length (text t)) ls)
  erase_place at k (sends pos t ss) = ap (λ u. sends origin u (erase_sendings (place_sendings at (k + length (text t)) ss))) (erase_place at k t) ∙ ap (sends origin (erase t)) (erase_place_sendings at (k + length (text t)) ss)
  erase_place at k (unary pos op t) = ap (unary origin op) (erase_place at (suc k) t)
  erase_place at k (assign pos x t) = ap (assign origin (erase_id x)) (erase_place at (suc (suc k)) t)
  erase_place at k (returned pos t) = ap (returned origin) (erase_place at (suc k) t)
  erase_place at k (choice pos t ts o) =
      let m = suc (suc k + length (text t)) in
      let l = m + length (texts s.Semicolon ts) in
      ap (λ u. choice origin u (erase_all (place_all at m ts)) (erase_part (place_part at l o))) (erase_place at (suc k) t)
      ∙ ap (λ us. choice origin (erase t) us (erase_part (place_part at l o))) (erase_place_all at m ts)
      ∙ ap (choice origin (erase t) (erase_all ts)) (erase_place_part at l o)
  erase_place at k (loop pos t ts) =
      let m = suc (suc k + length (text t)) in
      ap (λ u. loop origin u (erase_all (place_all at m ts))) (erase_place at (suc k) t) ∙ ap (loop origin (erase t)) (erase_place_all at m ts)

  pub erase_place_all : (at : ℕ → Pos) (k : ℕ) (ts : Expressions Id Id) → erase_all (place_all at k ts) ≡ erase_all ts
  erase_place_all at k none = refl
  erase_place_all at k (more t ts) = ap (λ u. more u (erase_all (place_tail at (k + length (text t)) ts))) (erase_place at k t) ∙ ap (more (erase t)) (erase_place_tail at (k + length (text t)) ts)

  erase_place_tail : (at : ℕ → Pos) (k : ℕ) (ts : Expressions Id Id) → erase_all (place_tail at k ts) ≡ erase_all ts
  erase_place_tail at k none = refl
  erase_place_tail at k (more t ts) = ap (λ u. more u (erase_all (place_tail at (suc k + length (text t)) ts))) (erase_place at (suc k) t) ∙ ap (more (erase t)) (erase_place_tail at (suc k + length (text t)) ts)

  pub erase_place_part : (at : ℕ → Pos) (k : ℕ) (p : Part Id Id) → erase_part (place_part at k p) ≡ erase_part p
  erase_place_part at k left_out = refl
  erase_place_part at k (written ts) = ap written (erase_place_all at (suc k) ts)

  erase_place_links : (at : ℕ → Pos) (k : ℕ) (ls : Links Id Id) → erase_links (place_links at k ls) ≡ erase_links ls
  erase_place_links at k no_links = refl
  erase_place_links at k (link op pos t ls) = ap (λ u. link op origin u (erase_links (place_links at (suc k + length (text t)) ls))) (erase_place at (suc k) t) ∙ ap (link op origin (erase t)) (erase_place_links at (suc k + length (text t)) ls)

  erase_place_sendings : (at : ℕ → Pos) (k : ℕ) (ss : Sendings Id Id) → erase_sendings (place_sendings at k ss) ≡ erase_sendings ss
  erase_place_sendings at k no_sendings = refl
  erase_place_sendings at k (sending x a ss) = ap (λ p. sending (erase_id x) p (erase_sendings (place_sendings at (suc k + length (arguments_text a)) ss))) (erase_place_part at (suc k) a) ∙ ap (sending (erase_id x) (erase_part a)) (erase_place_sendings at (suc k + length (arguments_text a)) ss)
