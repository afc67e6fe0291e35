use Rattle.vax_pairs_search.proofs.searching.Finder.+meet.Given as goal

abbrev pub decreases-meet : goal.decreases-meet
decreases-meet l = l.questions
