-- A passing of time leaves the height of a term, and whether it is done.
use Rattle.std.proofs.Common.{◌≡◌, ℕ, suc, max, Bool, true, false, Result, Ok, Err, refl, ap, ◌∙◌}
use Rattle.pz_rules.specs.pz_syntax.declared.tokens.Pos.{Pos}
use Rattle.pz_rules.specs.pz_syntax.Statements as statement
use Rattle.pz_rules.specs.pz_offer.declared.trouble.Trouble.{Trouble}
use Rattle.pz_rules.specs.Terms.{Code, Step, Term, done, leaf, wait, sequence, parallel, select, guarded, frame, abort, idle, handling, Terms, no_terms, and, height, greatest_height}
use Rattle.pz_rules.specs.Settings.{Context}
use Rattle.pz_rules.specs.Leaving.{is_done}
use Rattle.pz_rules.specs.devices.Found.{tested, lasting}
use Rattle.pz_rules.specs.devices.Passing.{begun, statement_passed, if_open, passed, passed_all}

module _ (a : Context) (d : ℕ) where
  begun_high : (at : Pos) (e : Code) (r : Result ℕ Trouble) → height (begun d at e r) ≡ 1
  begun_high at e (Ok left) = refl
  begun_high at e (Err t) = refl

  leaf_high : (f : ℕ) (s : Step) → height (statement_passed a d f s) ≡ 1
  leaf_high f (statement.delay at e) = begun_high at e (lasting a f at e)
  leaf_high f (statement.skip at) = refl
  leaf_high f (statement.bracketed at ts) = refl
  leaf_high f (statement.block at es) = refl
  leaf_high f (statement.guarded at e t) = refl
  leaf_high f (statement.parallel at bs) = refl
  leaf_high f (statement.select at bs) = refl
  leaf_high f (statement.conditional at e ts other) = refl
  leaf_high f (statement.repeated at e ts) = refl
  leaf_high f (statement.abort at ts t) = refl
  leaf_high f (statement.interrupt at ts t) = refl
  leaf_high f (statement.send at port name args after) = refl
  leaf_high f (statement.receive at port name into condition after) = refl
  leaf_high f (statement.call at method args results) = refl
  leaf_high f (statement.assignment at x e) = refl
  leaf_high f (statement.value at e) = refl

  open_high : (r : Result Bool Trouble) (x t : Term) → height x ≡ height t → height (if_open r x t) ≡ height t
  open_high (Ok true) x t same = same
  open_high (Ok false) x t same = refl
  open_high (Err u) x t same = refl

  mutual
    pub passed_high : (f : ℕ) (t : Term) → height (passed a d f t) ≡ height t
    passed_high f done = refl
    passed_high f (leaf s) = leaf_high f s
    passed_high f (wait left at) = refl
    passed_high f (sequence t rest) = ap suc (passed_high f t)
    passed_high f (parallel ts) = ap suc (all_high f ts)
    passed_high f (select ts) = ap suc (all_high f ts)
    passed_high f (guarded test at t) = ap suc (open_high (tested a f at test) (passed a d f t) t (passed_high f t))
    passed_high f (frame number inputs results t) = ap suc (passed_high number t)
    passed_high f (abort t u) = ap suc (ap (λ x. max x (height (passed a d f u))) (passed_high f t) ∙ ap (max (height t)) (passed_high f u))
    passed_high f (idle t u again) = ap suc (ap (λ x. max x (height (passed a d f u))) (passed_high f t) ∙ ap (max (height t)) (passed_high f u))
    passed_high f (handling t u again) = ap suc (ap (max (height t)) (passed_high f u))

    all_high : (f : ℕ) (ts : Terms) → greatest_height (passed_all a d f ts) ≡ greatest_height ts
    all_high f no_terms = refl
    all_high f (and t ts) = ap (λ x. max x (greatest_height (passed_all a d f ts))) (passed_high f t) ∙ ap (max (height t)) (all_high f ts)

  begun_undone : (at : Pos) (e : Code) (r : Result ℕ Trouble) → is_done (begun d at e r) ≡ false
  begun_undone at e (Ok left) = refl
  begun_undone at e (Err t) = refl

  leaf_undone : (f : ℕ) (s : Step) → is_done (statement_passed a d f s) ≡ false
  leaf_undone f (statement.delay at e) = begun_undone at e (lasting a f at e)
  leaf_undone f (statement.skip at) = refl
  leaf_undone f (statement.bracketed at ts) = refl
  leaf_undone f (statement.block at es) = refl
  leaf_undone f (statement.guarded at e t) = refl
  leaf_undone f (statement.parallel at bs) = refl
  leaf_undone f (statement.select at bs) = refl
  leaf_undone f (statement.conditional at e ts other) = refl
  leaf_undone f (statement.repeated at e ts) = refl
  leaf_undone f (statement.abort at ts t) = refl
  leaf_undone f (statement.interrupt at ts t) = refl
  leaf_undone f (statement.send at port name args after) = refl
  leaf_undone f (statement.receive at port name into condition after) = refl
  leaf_undone f (statement.call at method args results) = refl
  leaf_undone f (statement.assignment at x e) = refl
  leaf_undone f (statement.value at e) = refl

  pub passed_done : (f : ℕ) (t : Term) → is_done (passed a d f t) ≡ is_done t
  passed_done f done = refl
  passed_done f (leaf s) = leaf_undone f s
  passed_done f (wait left at) = refl
  passed_done f (sequence t rest) = refl
  passed_done f (parallel ts) = refl
  passed_done f (select ts) = refl
  passed_done f (guarded test at t) = refl
  passed_done f (frame number inputs results t) = refl
  passed_done f (abort t u) = refl
  passed_done f (idle t u again) = refl
  passed_done f (handling t u again) = refl
