mod Turn
