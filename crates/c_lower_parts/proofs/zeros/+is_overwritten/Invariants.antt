use Rattle.c_lower_parts.proofs.zeros.+is_overwritten.Given as goal

abbrev pub decreases-is_overwritten : goal.decreases-is_overwritten
decreases-is_overwritten l = l.ahead
