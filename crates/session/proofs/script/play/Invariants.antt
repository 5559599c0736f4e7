use Rattle.std.proofs.Common.{◌≡◌, ◌-◌, ◌≤◌, List, Some}
use Rattle.box_geo.specs.declared.limits.TheConstants.{MAX_LINES}
use Rattle.meaning.specs.Causes.{Kept, seen_of}
use Rattle.meaning.specs.Play.{play, played}
use Rattle.meaning.specs.Sound.{IsSound}
use Rattle.outside.specs.declared.files.File.{File}
use Rattle.session.specs.Ends.{IsAhead, lines_left}
use Rattle.session.proofs.script.play.Given as goal

abbrev pub invariant-loop-words : goal.invariant-loop-words
invariant-loop-words g l = record {
  ahead : (files : List File) → (g.S.Shelf.seen l.fn.shelf).stock ≡ Some files → IsAhead (play files l.fn.file l.fn.text l.fn.settings) (g.P.Press.seen l.fn.press).sent (g.P.Press.seen l.press).sent l.fn.steps l.steps (played (lines_left l.progress.flow) files l.settings l.progress);
  few : l.progress.flow.count ≤ MAX_LINES;
  sound : IsSound l.settings;
  kept : Kept (seen_of (g.S.Shelf.seen l.fn.shelf) (g.P.Press.seen l.fn.press) (g.D.Disk.view l.fn.disk).faults) (seen_of (g.S.Shelf.seen l.shelf) (g.P.Press.seen l.press) (g.D.Disk.view l.disk).faults);
  reads : (g.S.Shelf.seen l.shelf).faults ≡ (g.S.Shelf.seen l.fn.shelf).faults;
  writes : (g.P.Press.seen l.press).faults ≡ (g.P.Press.seen l.fn.press).faults;
  saves : (g.D.Disk.view l.disk).faults ≡ (g.D.Disk.view l.fn.disk).faults;
}

abbrev pub decreases-loop-words : goal.decreases-loop-words
decreases-loop-words g l = MAX_LINES - l.progress.flow.count
