mod LookingLemmas
