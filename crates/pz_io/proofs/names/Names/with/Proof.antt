-- `with` makes a value of no bytes.
use Rattle.std.proofs.Common.{◌≡◌, [], ◌∷◌, ◌++◌, refl}
use mir.Syntax.{named, w8}
use mir.Val.{Val, vptr}
use base.Logic.{SProp, emp}
use types.Kit.{‵, raw, ◌⊛◌, ◌$◌, ◌∵◌, !, qed, by, keep, split, use0, fjoin}
use types.Run.{unit_lit, no_more, and_then, returns, enter}
use types.ByLocal.{alloc_all, pass_all, free_all, look_at, sets}
use types.Part.{agg}
use contract.Monad.{fact, fact_i}
use contract.Running.{tables}
use denote.Exit.{yes}
use denote.RattleType.{owns}
use denote.Signature.{types_at, plain}
use denote.Builtin.{RefOf}
use denote.Plain.{UInt}
use denote.Ref.{shr_vals, shr_Tells}
use denote.Slice.{ShrSlice, shr_slice_vals, shr_slice_Tells, shr_slice_Lawful}
use denote.Such.{such_Tells, such_Lawful}
use denote.Text.{Utf8, StrRefOf}
use denote.Steps.{nothing}
use denote.Triple.Entry.{alive}
use denote.Triple.Walked.{Stays, stay_dropped, walk_of, Goes-dropped}
use Rattle.std.proofs.raw_atomic.Walks.{proved, leaves}
use Rattle.pz_io.specs.contracts.names.Names as names
use Rattle.pz_io.specs.contracts.names.Names.with as f
use Rattle.pz_io.proofs.NamesMade.{token, Owned, made}
use Rattle.pz_io.proofs.names.Names.with.Statement.{statement}
use Rattle.pz_io.proofs.names.Names.with.Code as code

pub with_spec : {M : Type 1} → statement M
with_spec 𝓤 𝓛 𝓜 𝓡 wired =
    let c = f.clauses 𝓛 𝓜.mem 𝓡.returns in let 𝓣 = tables 𝓤 𝓛.H 𝓜 𝓡 𝓡.env in
    let self = RefOf {n = 2} (0 ∷ []) tt (plain (λ _. names.the_row)) (λ _. tt) in let text = StrRefOf {n = 2} (1 ∷ []) tt in
    let hs : Stays f.ended.signature.params f.ended.kept = (stay_dropped self yes, (stay_dropped text yes, tt)) in
    proved 𝓛 f.ended hs c 𝓜 𝓡 (Goes-dropped 𝓛 2 self yes (λ κs x w. refl), (Goes-dropped 𝓛 2 text yes (λ κs x w. refl), tt))
    f.Key.name code.function (code.unfolded 𝓤 𝓛.H 𝓜 𝓡 wired)
    (λ κs. (shr_vals, (shr_slice_vals, tt)))
    (λ κs. (shr_Tells (named 0) κs.0 names.the_row, (such_Tells (ShrSlice (named 1) κs.1.0 (UInt w8)) (λ x. Utf8 x.now) (λ x cs. (tt, tt)) shr_slice_vals (shr_slice_Tells (named 1) κs.1.0 (UInt w8)), tt)))
    (λ κs qs bounds a g are.
    let p : Val = vptr a.0.ref_ptr.0 a.0.ref_ptr.1 in
    let y : (walk_of 𝓛 f.ended hs c).Ghost = ((κs, qs, bounds, a, (shr_vals a.0, (shr_slice_vals a.1.0, tt))), g) in let Post : Val → SProp 𝓤 = (walk_of 𝓛 f.ended hs c).post y in
    let typed = ((such_Lawful (ShrSlice (named 1) κs.1.0 (UInt w8)) (λ x. Utf8 x.now) (λ x cs. (tt, tt)) 𝓛 (shr_slice_Lawful 𝓛 (named 1) κs.1.0 (UInt w8))).typed a.1.0 (shr_slice_vals a.1.0) are.1.0).0 in
    let r : names.the_row.Denot = record { nothing = tt; list = a.0.now.list ++ (a.1.0.now ∷ []) } in
    qed 𝓛 ((raw (alive 𝓛 f.ended.signature κs qs) ⊛ ‵ (owns (types_at f.ended.signature.params κs) a y.0.4)) ∷ raw ((c κs a).requires g) ∷ []) ∵ split ! $ keep ! (0 ∷ []) $
    enter ! 𝓣.C 𝓣.Λ code.function _ Post $ alloc_all ! (λ l. pass_all ! refl ((tt, tt), (typed, tt)) $ sets ! (agg ! (and_then ! (unit_lit !) (no_more !))) refl (tt, (tt, tt)) $
    use0 𝓛 (‵ (Owned r token)) (made 𝓛 r) $ use0 𝓛 (raw (fact 𝓤 (r.list ≡ r.list))) (fact_i 𝓤 (r.list ≡ r.list) (emp 𝓤) refl) $ nothing ! $ nothing ! $ fjoin ! $ nothing ! $ fjoin ! $
    returns ! (look_at ! 0 refl) $ free_all ! refl $ keep ! (3 ∷ 0 ∷ 2 ∷ 1 ∷ []) $ by ! (leaves 𝓛 f.ended hs c y token r (tt, (tt, tt)) (tt, (tt, tt)))))
