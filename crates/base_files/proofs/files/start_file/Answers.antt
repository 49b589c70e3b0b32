use Rattle.std.proofs.Common.{◌≡◌, Some, None, arith, rules, refl}
use Rattle.base_files.specs.Files.{place_of}
use Rattle.base_files.proofs.Places.{StandsAt, StandsAt-found, StandsNowhere, StandsNowhere-absent, place_of-within}
use Rattle.base_files.proofs.files.start_file.Goals as goal

pub index_mut-requires : goal.index_mut-requires
index_mut-requires c =
    let found : place_of c.args.files.now.items c.args.name.now ≡ Some c.in-Some.i = cc in
    omega (arith, place_of-within c.args.files.now.items c.args.name.now c.in-Some.i found)

pub returns-in-Some-clause-ok : goal.returns-in-Some-clause-ok
returns-in-Some-clause-ok c =
    let found : place_of c.args.files.now.items c.args.name.now ≡ Some c.in-Some.i = cc in
    let stands : StandsAt c.args.files.now.items c.args.name.now c.in-Some.i c.index_mut.result.now = StandsAt-found c.args.files.now.items c.args.name.now c.in-Some.i c.index_mut.result.now found c.index_mut.ensures.value in
    rw (stands.written _, ← c.clear.ensures) refl

pub returns-in_ok-push-in-None-clause-ok : goal.returns-in_ok-push-in-None-clause-ok
returns-in_ok-push-in-None-clause-ok c =
    let found : place_of c.args.files.now.items c.args.name.now ≡ None = cc in
    let stands : StandsNowhere c.args.files.now.items c.args.name.now = StandsNowhere-absent c.args.files.now.items c.args.name.now found in
    rw (stands.written _) (search rules)
