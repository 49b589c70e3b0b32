use Rattle.std.proofs.Common.{◌≡◌, ◌+◌, ◌++◌, [], ◌∷◌, List, length, ap, sym, ◌∙◌, subst, arith}
use Rattle.std.proofs.lemmas.List.{length-append}
use Rattle.std.proofs.lemmas.List.Elements.{All-push}
use Rattle.sat_clauses.specs.Literal.{Literal}
use Rattle.sat_clauses.specs.Models.{ClauseBelow, ClausesBelow}
use Rattle.sat_clauses.specs.StoreRecord.{StoreValue}
use Rattle.sat_clauses.specs.DeriveStoreRecord.{Store}
use Rattle.sat_solver.specs.Arena.{AreWatched}
use Rattle.sat_solver.proofs.PickLemmas.{picks_watch, tables_pushed}
use Rattle.sat_solver.proofs.arena.ArenaStore.push.Goals as goal

pub invariant_of-self-2 : goal.invariant_of-self-2
invariant_of-self-2 c =
    let s = c.self.inside in
    let cs = s.clauses.clauses in
    let lits = c.args.lits.now in
    let vars = s.trail.vars in
    let n = c.len-place.result in
    let fs' = c.file.new.threads.homes in
    let ss' = c.file-2.new.threads.homes in
    let pushed : c.push.new.self.clauses ≡ cs ++ lits ∷ [] = ap (λ (x : Store). x.clauses) c.in_ok-push.ensures.ok in
    let longer : length c.push.new.self.clauses ≡ length cs + 1 = ap length pushed ∙ length-append cs (lits ∷ []) in
    let below : ClauseBelow (vars + 1) lits = subst (λ (v : StoreValue). ClauseBelow (v.vars + 1) lits) (sym c.self.view_is) c.requires in
    let watch = picks_watch vars s.trail.lits lits c.pick-first.result c.pick-second.result c.pick-first.ensures c.pick-second.ensures in
    let tables = tables_pushed vars s.trail.lits cs lits s.firsts.homes s.seconds.homes fs' ss' c.pick-first.result c.pick-second.result n c.self.invariant.watched (sym c.len-place.ensures) watch
    c.pick-first.ensures.not_spare c.pick-second.ensures.not_spare c.file.ensures.here (λ i ne. c.file.ensures.others i ne ∙ c.make_known.ensures.homes i) c.file-2.ensures.here (λ i ne. c.file-2.ensures.others i ne ∙ c.make_known-2.ensures.homes i) in
    let first_len : c.len.result ≡ length s.firsts.homes = c.len.ensures in
    let second_len : c.len-2.result ≡ length s.seconds.homes = c.len-2.ensures in
    let sum : c.in_ok-places.places ≡ c.len.result + c.len-2.result = grind arith in
    let more : c.in_ok-room.room ≡ c.in_ok-places.places + 2 = grind arith in
    record {
      in_range = subst (ClausesBelow (vars + 1)) (sym pushed) (All-push (ClauseBelow (vars + 1)) cs lits c.self.invariant.in_range below);
      lists_first = omega (arith, c.file.ensures.lists, c.make_known.ensures.lists, c.self.invariant.lists_first);
      lists_second = omega (arith, c.file-2.ensures.lists, c.make_known-2.ensures.lists, c.self.invariant.lists_second);
      places_first = omega (arith, longer, c.file.ensures.places, c.in_ok-make_known.ensures.known, c.len-place.ensures);
      places_second = omega (arith, longer, c.file-2.ensures.places, c.in_ok-make_known-2.ensures.known, c.len-place.ensures);
      watched = subst (λ (x : List (List Literal)). AreWatched vars s.trail.lits x fs' ss') (sym pushed) tables;
      room = omega (arith, sum, more, first_len, second_len, c.file.ensures.places, c.file-2.ensures.places, c.make_known.ensures.bound, c.make_known-2.ensures.bound, c.in_ok-reserve.ensures.ok, c.clear.ensures.capacity);
    }
