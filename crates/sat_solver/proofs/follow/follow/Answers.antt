use Rattle.std.proofs.Common.{◌≡◌, ◌+◌, Some, length, take, refl, sym, ap, ◌∙◌, subst, arith}
use Rattle.std.specs.Prelude.{slice_get}
use Rattle.sat_clauses.specs.StoreRecord.{StoreValue}
use Rattle.sat_solver.specs.TrailRecord.{TrailValue}
use Rattle.sat_solver.specs.Trail.{lits_of, IsFollowed}
use Rattle.sat_solver.proofs.FollowLemmas.{followed_begins, begins_more, next_in_range, next_free}
use Rattle.sat_solver.proofs.follow.follow.Goals as goal

pub loop-i-init : goal.loop-i-init
loop-i-init g c =
    let s = (g.S.Store.held c.args.store.now).trail in
    let u = c.note_short.new.trail in
    let followed : IsFollowed s u = subst (IsFollowed s) (sym c.note_short.ensures) c.requires.followed in
    record {
      same = refl;
      clauses = refl;
      vars = refl;
      within = omega (arith, followed.within, c.followed-keep.ensures);
      begins = ap (λ (v : StoreValue). v.trail) c.undo.ensures
          ∙ (ap (λ k. take k s) c.followed-keep.ensures
          ∙ (followed_begins s u followed ∙ ap (λ k. lits_of (take k u.entries)) (sym c.followed-keep.ensures)));
    }

pub set-requires-clause-in_range : goal.set-requires-clause-in_range
set-requires-clause-in_range g c =
    let t = c.args.trail.now in
    let i = c.loop-i.i in
    let e = c.at.result in
    let is : c.loop-i.trail ≡ t = c.loop-i.invariant.same ∙ c.note_short.ensures in
    let vars : (g.S.Store.held c.loop-i.store).vars ≡ (g.S.Store.held c.args.store.now).vars = c.loop-i.invariant.vars ∙ ap (λ (v : StoreValue). v.vars) c.undo.ensures in
    next_in_range (g.S.Store.held c.loop-i.store).vars (length t.values) t.entries i e (ap (λ n. n + 1) vars ∙ c.requires.places)
    (subst (λ (x : TrailValue). slice_get x.entries i ≡ Some e) is c.at.ensures) c.requires.lawful.fresh

pub set-requires-clause-free : goal.set-requires-clause-free
set-requires-clause-free g c =
    let s = g.S.Store.held c.loop-i.store in
    let t = c.args.trail.now in
    let i = c.loop-i.i in
    let e = c.at.result in
    let is : c.loop-i.trail ≡ t = c.loop-i.invariant.same ∙ c.note_short.ensures in
    let vars : s.vars ≡ (g.S.Store.held c.args.store.now).vars = c.loop-i.invariant.vars ∙ ap (λ (v : StoreValue). v.vars) c.undo.ensures in
    next_free s.vars (length t.values) s.trail t.entries i e (ap (λ n. n + 1) vars ∙ c.requires.places)
    (subst (λ (x : TrailValue). slice_get x.entries i ≡ Some e) is c.at.ensures) c.requires.lawful.fresh
    (c.loop-i.invariant.begins ∙ ap (λ (x : TrailValue). lits_of (take i x.entries)) is)

pub loop-i-preserved : goal.loop-i-preserved
loop-i-preserved g c =
    let s = (g.S.Store.held c.loop-i.store).trail in
    let i = c.loop-i.i in
    let longer : length c.note.new.self.entries ≡ length c.loop-i.trail.entries = ap (λ (x : TrailValue). length x.entries) c.note.ensures in
    record {
      same = c.note.ensures ∙ c.loop-i.invariant.same;
      clauses = ap (λ (v : StoreValue). v.clauses) c.set.ensures.held ∙ c.loop-i.invariant.clauses;
      vars = ap (λ (v : StoreValue). v.vars) c.set.ensures.held ∙ c.loop-i.invariant.vars;
      within = omega (arith, c.loop-i-test.true, c.len.ensures, longer);
      begins = ap (λ (v : StoreValue). v.trail) c.set.ensures.held
          ∙ (begins_more s c.loop-i.trail.entries i c.at.result c.at.ensures c.loop-i.invariant.begins
          ∙ ap (λ (x : TrailValue). lits_of (take (i + 1) x.entries)) (sym c.note.ensures));
    }
