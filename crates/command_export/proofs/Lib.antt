mod CheckFacts
mod ExportReplies
