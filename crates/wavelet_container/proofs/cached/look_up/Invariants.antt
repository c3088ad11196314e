use Rattle.wavelet_container.proofs.cached.look_up.Given as goal

abbrev pub ghosts-state_counted : goal.ghosts-state_counted
ghosts-state_counted a = record { name = a.blank.name; parts = a.blank.parts }
