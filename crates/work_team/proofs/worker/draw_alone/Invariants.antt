use Rattle.work_team.proofs.worker.draw_alone.Given as goal

abbrev pub ghosts-draw_counted : goal.ghosts-draw_counted
ghosts-draw_counted g a = record { name = a.blank.name; parts = a.blank.parts }
