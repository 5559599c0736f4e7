use Rattle.std.proofs.Common.{◌≡◌, ap, to_z, of_z, arith}
use Rattle.meaning.specs.Runs.{Snapshot}
use Rattle.std.specs.Int.{w64}
use Rattle.std.proofs.lemmas.Int.{ints}
use Rattle.script_runs.proofs.DoesLemmas.{does_done, does_stopped, does_without}
use Rattle.script_runs.proofs.ReadyLemmas.{dim_after, ids_after, makes_meant, settings_after, sound_after}
use Rattle.script_runs.proofs.TableLemmas.{passed}
use Rattle.script_runs.proofs.runs.run_ready.Goals as goal

pub returns-in-Err-run_engine-clause-does : goal.returns-in-Err-run_engine-clause-does
returns-in-Err-run_engine-clause-does g c =
    let s = c.args.settings.now in
    let b = c.args.body in
    let timestep : to_z w64 (of_z w64 s.setup.timestep) ≡ s.setup.timestep = passed s.setup.timestep c.requires.sound.setup.slow (omega (arith, ints, c.requires.sound.setup.quick)) in
    does_stopped c.in-Err-run_engine.why s b _ _ _ _ _ _ _ _
    (makes_meant s b c.in-Ok.engine c.args.fixes.now c.args.last _ _ _ _ _ _ _ _ timestep c.in-Ok.ensures c.requires.fixes c.in-Err-run_engine.ensures.makes)
    c.in-Err-run_engine.ensures.others

pub returns-in-Err-run_engine-clause-counted : goal.returns-in-Err-run_engine-clause-counted
returns-in-Err-run_engine-clause-counted g c =
    let s = c.args.settings.now in
    let b = c.args.body in
    let timestep : to_z w64 (of_z w64 s.setup.timestep) ≡ s.setup.timestep = passed s.setup.timestep c.requires.sound.setup.slow (omega (arith, ints, c.requires.sound.setup.quick)) in
    let made = makes_meant s b c.in-Ok.engine c.args.fixes.now c.args.last _ _ _ _ _ _ _ _ timestep c.in-Ok.ensures c.requires.fixes c.in-Err-run_engine.ensures.makes in
    record { few = made.few; exact = tt }

pub returns-in-Err-numbers-clause-does : goal.returns-in-Err-numbers-clause-does
returns-in-Err-numbers-clause-does g c =
    let s = c.args.settings.now in
    let b = c.args.body in
    let timestep : to_z w64 (of_z w64 s.setup.timestep) ≡ s.setup.timestep = passed s.setup.timestep c.requires.sound.setup.slow (omega (arith, ints, c.requires.sound.setup.quick)) in
    does_without s b _ _ _ _ _ _ _ c.in-Ok-run_engine.tally _
    (makes_meant s b c.in-Ok.engine c.args.fixes.now c.args.last _ _ _ _ _ _ _ _ timestep c.in-Ok.ensures c.requires.fixes c.in-Ok-run_engine.ensures.makes)

pub returns-in-Err-numbers-clause-counted : goal.returns-in-Err-numbers-clause-counted
returns-in-Err-numbers-clause-counted g c =
    let s = c.args.settings.now in
    let b = c.args.body in
    let timestep : to_z w64 (of_z w64 s.setup.timestep) ≡ s.setup.timestep = passed s.setup.timestep c.requires.sound.setup.slow (omega (arith, ints, c.requires.sound.setup.quick)) in
    let made = makes_meant s b c.in-Ok.engine c.args.fixes.now c.args.last _ _ _ _ _ _ _ _ timestep c.in-Ok.ensures c.requires.fixes c.in-Ok-run_engine.ensures.makes in
    record { few = made.few; exact = tt }

pub returns-clause-does : goal.returns-clause-does
returns-clause-does g c =
    let s = c.args.settings.now in
    let b = c.args.body in
    let timestep : to_z w64 (of_z w64 s.setup.timestep) ≡ s.setup.timestep = passed s.setup.timestep c.requires.sound.setup.slow (omega (arith, ints, c.requires.sound.setup.quick)) in
    does_done s b _ _ _ _ _ _ _ c.in-Ok-run_engine.tally _
    (makes_meant s b c.in-Ok.engine c.args.fixes.now c.args.last _ _ _ _ _ _ _ _ timestep c.in-Ok.ensures c.requires.fixes c.in-Ok-run_engine.ensures.makes)
    (settings_after s b c.body_of.result c.in-Ok.engine c.run_engine.new.engine c.run_engine.new.output c.in-Ok-numbers.known c.in-Ok-run_engine.tally _ _ c.in-Ok.ensures timestep c.in-Ok-run_engine.ensures.rules c.body_of.ensures c.in-Ok-run_engine.ensures.others c.in-Ok-numbers.ensures.is)

pub returns-clause-counted : goal.returns-clause-counted
returns-clause-counted g c =
    let s = c.args.settings.now in
    let b = c.args.body in
    let timestep : to_z w64 (of_z w64 s.setup.timestep) ≡ s.setup.timestep = passed s.setup.timestep c.requires.sound.setup.slow (omega (arith, ints, c.requires.sound.setup.quick)) in
    let made = makes_meant s b c.in-Ok.engine c.args.fixes.now c.args.last _ _ _ _ _ _ _ _ timestep c.in-Ok.ensures c.requires.fixes c.in-Ok-run_engine.ensures.makes in
    record { few = made.few; exact = made.exact }

pub returns-clause-sound : goal.returns-clause-sound
returns-clause-sound g c =
    let s = c.args.settings.now in
    let b = c.args.body in
    let timestep : to_z w64 (of_z w64 s.setup.timestep) ≡ s.setup.timestep = passed s.setup.timestep c.requires.sound.setup.slow (omega (arith, ints, c.requires.sound.setup.quick)) in
    let made = makes_meant s b c.in-Ok.engine c.args.fixes.now c.args.last _ _ _ _ _ _ _ _ timestep c.in-Ok.ensures c.requires.fixes c.in-Ok-run_engine.ensures.makes in
    let now = c.run_engine.new.engine in
    record {
      setup = c.requires.sound.setup;
      force = c.requires.sound.force;
      body = sound_after s b c.body_of.result c.in-Ok.engine now _ c.requires.sound.body c.in-Ok.ensures c.in-Ok-run_engine.ensures.rules c.in-Ok-run_engine.ensures.ready (ids_after s b c.args.last now.state (ap (λ (x : Snapshot). x.state) made.end_is)) c.body_of.ensures;
      dim = dim_after s b c.body_of.result c.in-Ok.engine now _ _ c.requires.sound.dim c.in-Ok.ensures c.in-Ok-run_engine.ensures.rules c.body_of.ensures;
    }
