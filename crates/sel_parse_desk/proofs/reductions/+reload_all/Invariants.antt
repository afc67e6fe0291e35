use Rattle.sel_parse_desk.proofs.reductions.+reload_all.Given as goal

abbrev pub decreases-reload_all : goal.decreases-reload_all
decreases-reload_all g l = l.count
