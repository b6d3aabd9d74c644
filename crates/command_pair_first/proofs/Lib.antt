mod ReplyFacts
