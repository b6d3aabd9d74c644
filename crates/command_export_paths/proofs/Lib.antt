mod PathFacts
